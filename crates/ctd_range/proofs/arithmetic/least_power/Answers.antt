use Rattle.ctd_range.proofs.Common.{FitsSigned, arith, ints, rules, to_z-of_z, w128}
use Rattle.ctd_range.proofs.Divisions.{as_least, at_least_one, least_is, one_at_least}
use Rattle.ctd_range.proofs.arithmetic.least_power.Goals as goal

pub returns-in-Ok : goal.returns-in-Ok
returns-in-Ok c =
    let fits_1 : FitsSigned w128 c.args.base = search rules in
    let fits_2 : FitsSigned w128 c.args.exponent = search rules in
    let fits_3 : FitsSigned w128 c.unwrap_or.result = search rules in
    let power = rw (to_z-of_z w128 c.args.base fits_1) at c.checked_pow.ensures in
    let base = rw (to_z-of_z w128 c.args.base fits_1) at c.if-base-lt1.false in
    let exponent = rw (c.in-Ok.is, to_z-of_z w128 c.args.exponent fits_2) at c.try_from.ensures in
    rw (to_z-of_z w128 c.unwrap_or.result fits_3, c.unwrap_or.ensures)
    (least_is c.args.base c.args.exponent c.in-Ok.n c.checked_pow.result (at_least_one c.args.base base)
    (as_least c.args.exponent c.in-Ok.n exponent.0.0 exponent.1) power)

pub returns-in-Err : goal.returns-in-Err
returns-in-Err c =
    let fits : FitsSigned w128 c.args.base = search rules in
    let base = rw (to_z-of_z w128 c.args.base fits) at c.if-base-lt1.false in
    λ p e above more. let some = at_least_one c.args.base base in one_at_least p e (omega (arith, ints, some, above))
