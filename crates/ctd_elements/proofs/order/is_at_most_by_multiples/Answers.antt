use Rattle.std.proofs.Common.{rules}
use Rattle.ctd_elements.proofs.Common.{FitsSigned, to_z-of_z, w128, w64}
use Rattle.ctd_elements.proofs.Bounds.{multiples_order}
use Rattle.ctd_elements.proofs.order.is_at_most_by_multiples.Goals as goal

pub returns-in-Some : goal.returns-in-Some
returns-in-Some c =
    let wide : FitsSigned w128 c.from.result = search rules in
    let left : FitsSigned w64 c.args.a.add = search rules in
    let right : FitsSigned w64 c.args.b.add = search rules in
    λ yes is_a is_b. multiples_order c.args.state c.args.a c.args.b c.args.s c.args.t c.in-Some.more is_a is_b c.in-Some.ensures
    (rw (to_z-of_z w128 c.from.result wide, c.from.ensures, to_z-of_z w64 c.args.a.add left, to_z-of_z w64 c.args.b.add right) at (c.reaches.ensures yes))
