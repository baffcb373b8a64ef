use Rattle.ctd_range.proofs.Common.{FitsSigned, int_div, quot_fits, rules, to_z-of_z, w128}
use Rattle.ctd_range.proofs.Quotients.{quotients_are_in}
use Rattle.ctd_range.proofs.arithmetic.quotients.Goals as goal

pub returns : goal.returns
returns c =
    let fits_least : FitsSigned w128 c.args.least = search rules in
    let fits_low : FitsSigned w128 c.args.a.low = search rules in
    let fits_high : FitsSigned w128 c.args.a.high = search rules in
    let fits_min : FitsSigned w128 c.min.result = search rules in
    let fits_max : FitsSigned w128 c.max.result = search rules in
    let low = rw (to_z-of_z w128 c.args.a.low fits_low) at c.min.ensures.self_bound in
    let high = rw (to_z-of_z w128 c.args.a.high fits_high) at c.max.ensures.self_bound in
    let some = c.requires in
    rw (to_z-of_z w128 c.min.result fits_min, to_z-of_z w128 c.args.least fits_least, to_z-of_z w128 (int_div c.min.result c.args.least) (quot_fits w128 c.min.result c.args.least fits_min (search rules)), to_z-of_z w128 c.max.result fits_max, to_z-of_z w128 (int_div c.max.result c.args.least) (quot_fits w128 c.max.result c.args.least fits_max (search rules)))
    (λ n x y inside more. quotients_are_in c.args.a c.min.result c.max.result c.args.least n x y some low c.min.ensures.other_bound high c.max.ensures.other_bound inside more)
