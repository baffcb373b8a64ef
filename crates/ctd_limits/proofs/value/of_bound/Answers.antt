use Rattle.std.proofs.Common.{None, Some, refl}
use Rattle.ctd_elements.specs.declared.fact.Index.TheVariants as indices
use Rattle.ctd_limits.specs.declared.known.ValueLimits.{ValueLimits}
use Rattle.ctd_limits.proofs.Valuing.{number_known}
use Rattle.ctd_limits.proofs.value.of_bound.Goals as goal

pub returns : goal.returns
returns c =
    let l : ValueLimits = record { exact = Some (indices.Number c.args.b); lows = c.in_ok-lows.lows; highs = c.in_ok-highs.highs; source = None } in
    λ none. number_known c.args.b l none refl c.in_ok-lows.ensures c.in_ok-highs.ensures refl
