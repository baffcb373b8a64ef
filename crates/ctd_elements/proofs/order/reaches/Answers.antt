use Rattle.std.proofs.Common.{rules}
use Rattle.ctd_elements.proofs.Common.{FitsSigned, to_z-of_z, w128}
use Rattle.ctd_elements.proofs.Bounds.{less_reaches}
use Rattle.ctd_elements.proofs.order.reaches.Goals as goal

pub returns-in-Some : goal.returns-in-Some
returns-in-Some c =
    let fits_1 : FitsSigned w128 c.args.most = search rules in
    let fits_2 : FitsSigned w128 c.in-Some.least = search rules in
    λ yes. less_reaches c.args.state c.args.b c.args.most c.in-Some.least c.in-Some.ensures (rw (to_z-of_z w128 c.args.most fits_1, to_z-of_z w128 c.in-Some.least fits_2) at (c.is_no_more.ensures yes))
