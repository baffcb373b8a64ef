use Rattle.ctd_elements.proofs.Common.{refl}
use Rattle.ctd_elements.proofs.Differing.{higher_differs, lower_differs}
use Rattle.ctd_elements.proofs.follow.are_unequal.Goals as goal

pub returns-then-is_lower : goal.returns-then-is_lower
returns-then-is_lower c = λ yes. lower_differs c.args.state c.args.a c.args.b (c.if-is_lower.ensures refl)

pub returns : goal.returns
returns c = λ yes. higher_differs c.args.state c.args.a c.args.b (c.is_lower-2.ensures yes)
