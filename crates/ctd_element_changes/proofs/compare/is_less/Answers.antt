use Rattle.ctd_element_changes.proofs.Common.{refl}
use Rattle.ctd_element_changes.proofs.Comparing.{less_by}
use Rattle.ctd_element_changes.proofs.compare.is_less.Goals as goal

pub returns-in-Some : goal.returns-in-Some
returns-in-Some c = λ yes. less_by c.args.state c.args.p c.args.q c.in-Some.above c.args.a c.args.b (c.if-not-is_from.ensures refl) c.in-Some.ensures (c.is_up_to.ensures yes)
