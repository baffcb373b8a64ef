use Rattle.ctd_element_changes.proofs.Common.{refl}
use Rattle.ctd_element_changes.proofs.Giving.{but_first, unit_first}
use Rattle.ctd_element_changes.proofs.element.is_filled_but_first.Goals as goal

pub returns-then-is_part : goal.returns-then-is_part
returns-then-is_part c = λ yes. unit_first c.args.state c.args.f c.args.at (c.if-is_part.ensures refl)

pub returns-in-Some : goal.returns-in-Some
returns-in-Some c = λ yes. but_first c.args.state c.args.f c.with_first.result c.args.at c.in-Some.rest c.in-Some.ensures c.with_first.ensures (c.follows.ensures yes)
