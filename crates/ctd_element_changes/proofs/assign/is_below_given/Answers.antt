use Rattle.ctd_element_changes.proofs.Common.{refl}
use Rattle.ctd_element_changes.proofs.Assigned.{below_given}
use Rattle.ctd_element_changes.proofs.assign.is_below_given.Goals as goal

pub returns-in-Some : goal.returns-in-Some
returns-in-Some c = λ yes. below_given c.args.state c.args.name.now c.args.limits c.args.a c.args.b c.in-Some.most (c.if-not-is_once.ensures refl) c.in-Some.ensures (c.is_up_to.ensures yes)
