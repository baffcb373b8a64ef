use Rattle.ctd_range.proofs.Common.{FitsSigned, rules, to_z-of_z, w128}
use Rattle.ctd_range.proofs.Divisions.{as_count, greatest_is}
use Rattle.ctd_range.proofs.arithmetic.greatest_power.Goals as goal

pub returns-in-Ok : goal.returns-in-Ok
returns-in-Ok c =
    let fits_1 : FitsSigned w128 c.args.base = search rules in
    let fits_2 : FitsSigned w128 c.max.result = search rules in
    let fits_3 : FitsSigned w128 c.args.exponent = search rules in
    let up = rw (to_z-of_z w128 c.args.base fits_1) at c.max.ensures.self_bound in
    let power = rw (to_z-of_z w128 c.max.result fits_2) at c.checked_pow.ensures in
    let exponent = rw (c.in-Ok.is, to_z-of_z w128 c.args.exponent fits_3) at c.try_from.ensures in
    let count = as_count c.args.exponent c.in-Ok.n exponent.0.0 exponent.0.1 exponent.1 in
    greatest_is c.max.result c.args.base c.args.exponent c.in-Ok.n c.checked_pow.result c.max.ensures.other_bound up count.0 count.1 power
