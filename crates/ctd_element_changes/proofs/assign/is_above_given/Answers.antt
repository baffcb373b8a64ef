use Rattle.ctd_element_changes.proofs.Common.{refl}
use Rattle.ctd_element_changes.proofs.Assigned.{above_given}
use Rattle.ctd_element_changes.proofs.assign.is_above_given.Goals as goal

pub returns-in-Some : goal.returns-in-Some
returns-in-Some c = λ yes. above_given c.args.state c.args.name.now c.args.limits c.args.a c.args.b c.in-Some.least (c.if-not-is_once.ensures refl) c.in-Some.ensures (c.is_from.ensures yes)
