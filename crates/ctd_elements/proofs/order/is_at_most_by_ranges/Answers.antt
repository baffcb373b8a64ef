use Rattle.std.proofs.Common.{rules}
use Rattle.ctd_elements.proofs.Common.{FitsSigned, subst, to_z-of_z, w128}
use Rattle.ctd_elements.specs.calls.Orders.{IsLeast}
use Rattle.ctd_elements.proofs.Bounds.{ranges_order}
use Rattle.ctd_elements.proofs.order.is_at_most_by_ranges.Goals as goal

pub returns-in-Some : goal.returns-in-Some
returns-in-Some c =
    let fits : FitsSigned w128 c.in-Some.most = search rules in
    λ yes. ranges_order c.args.state c.args.a c.args.b c.in-Some.most c.in-Some.ensures (subst (λ m. IsLeast c.args.state c.args.b m) (to_z-of_z w128 c.in-Some.most fits) (c.reaches.ensures yes))
