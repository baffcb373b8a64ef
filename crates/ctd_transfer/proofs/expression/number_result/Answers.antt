use Rattle.ctd_transfer.proofs.Common.{FitsSigned, rules, to_z-of_z, w128}
use Rattle.ctd_transfer.proofs.expression.number_result.Goals as goal

pub returns : goal.returns
returns c =
    let fits : FitsSigned w128 c.args.n = search rules in
    let gives = rw (to_z-of_z w128 c.args.n fits) at c.of_number.ensures in
    let known = rw (to_z-of_z w128 c.args.n fits) at c.in_ok-limits.ensures in
    λ g k h. (gives k, known g.names.now h)
