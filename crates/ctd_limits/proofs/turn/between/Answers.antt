use Rattle.std.proofs.Common.{None, refl, ◌∙◌}
use Rattle.ctd_limits.specs.declared.known.ValueLimits.{ValueLimits}
use Rattle.ctd_limits.proofs.Turns.{lies_between}
use Rattle.ctd_limits.proofs.turn.between.Goals as goal

pub returns : goal.returns
returns c =
    let l : ValueLimits = record { exact = None; lows = c.in_ok-lows.lows; highs = c.in_ok-highs.highs; source = None } in
    lies_between c.args.low.now c.args.high.now l refl refl (c.in_ok-lows.ensures ∙ c.as_slice.ensures.value) (c.in_ok-highs.ensures ∙ c.as_slice-2.ensures.value)
