use Rattle.ctd_traps.proofs.Common.{FitsSigned, pos, rules, to_z-of_z, w128}
use Rattle.ctd_traps.proofs.Turning.{at_least, at_most}
use Rattle.ctd_traps.proofs.turn.last_numbers.Goals as goal

pub returns : goal.returns
returns c =
    let fits_low : FitsSigned w128 c.from.result = search rules in
    let fits_high : FitsSigned w128 c.from-2.result = search rules in
    let low = rw (to_z-of_z w128 c.from.result fits_low, c.from.ensures) at c.with_low.ensures in
    let high = rw (to_z-of_z w128 c.from-2.result fits_high, c.from-2.ensures) at c.with_high.ensures in
    λ n k least most here. high n (pos k) (at_most c.args.most k n most) (low n (pos k) (at_least c.args.least k n least) here)
