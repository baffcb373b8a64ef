use Rattle.ctd_element_changes.proofs.Common.{refl}
use Rattle.ctd_element_changes.proofs.Giving.{but_second, unit_second}
use Rattle.ctd_element_changes.proofs.element.is_filled_but_second.Goals as goal

pub returns-then-is_part : goal.returns-then-is_part
returns-then-is_part c = λ yes is. unit_second c.args.state c.args.f c.args.side c.args.at (c.if-is_part.ensures refl) is

pub returns-in-Some : goal.returns-in-Some
returns-in-Some c = λ yes is. but_second c.args.state c.args.f c.with_second.result c.args.side c.args.at c.in-Some.rest c.in-Some.ensures c.with_second.ensures (c.follows.ensures yes) is
