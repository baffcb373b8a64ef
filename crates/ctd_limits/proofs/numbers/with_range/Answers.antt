use Rattle.std.proofs.Common.{refl, rules}
use Rattle.std.specs.Int.RustNames.{FitsSigned}
use Rattle.std.specs.Int.{w128}
use Rattle.std.proofs.lemmas.Int.{to_z-of_z}
use Rattle.ctd_limits.specs.declared.known.ValueLimits.{ValueLimits}
use Rattle.ctd_limits.proofs.NumberBounds.{knows_range}
use Rattle.ctd_limits.proofs.numbers.with_range.Goals as goal

pub returns : goal.returns
returns c =
    let l : ValueLimits = record { exact = c.args.limits.exact; lows = c.in_ok-lows.lows; highs = c.in_ok-highs.highs; source = c.args.limits.source } in
    let low_fits : FitsSigned w128 c.args.range.low = search rules in
    let high_fits : FitsSigned w128 c.args.range.high = search rules in
    knows_range c.args.limits l c.args.range refl refl (rw (to_z-of_z w128 c.args.range.low low_fits) at c.in_ok-lows.ensures) (rw (to_z-of_z w128 c.args.range.high high_fits) at c.in_ok-highs.ensures)
