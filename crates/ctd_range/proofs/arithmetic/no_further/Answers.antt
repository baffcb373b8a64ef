use Rattle.ctd_range.proofs.Common.{FitsSigned, arith, ints, pos, rules, to_z-of_z, w128, ◌-ℤ◌}
use Rattle.ctd_range.proofs.Quotients.{no_further_is_in}
use Rattle.ctd_range.proofs.arithmetic.no_further.Goals as goal

pub returns : goal.returns
returns c =
    let fits_low : FitsSigned w128 c.args.a.low = search rules in
    let fits_high : FitsSigned w128 c.args.a.high = search rules in
    let fits_min : FitsSigned w128 c.min.result = search rules in
    let fits_most : FitsSigned w128 c.max-most.result = search rules in
    let low = rw (to_z-of_z w128 c.args.a.low fits_low) at c.min.ensures.self_bound in
    let to = c.min.ensures.other_bound in
    let high = rw (to_z-of_z w128 c.args.a.high fits_high) at c.max-most.ensures.self_bound in
    let fits_back : FitsSigned w128 (pos 0 -ℤ c.min.result) = search rules in
    let more = rw (to_z-of_z w128 c.min.result fits_min, to_z-of_z w128 (pos 0 -ℤ c.min.result) fits_back) at c.max-most.ensures.other_bound in
    let fits_least : FitsSigned w128 (pos 0 -ℤ c.max-most.result) = search rules in
    rw (to_z-of_z w128 c.max-most.result fits_most, to_z-of_z w128 (pos 0 -ℤ c.max-most.result) fits_least)
    (λ n x z inside far. no_further_is_in c.args.a c.min.result c.max-most.result n x z low (omega (arith, ints, more)) (omega (arith, ints, more, to)) high inside far)
