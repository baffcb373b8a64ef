use Rattle.std.proofs.Common.{subst}
use Rattle.ctd_limits.specs.inner.Numbers.{IsFromLows, IsToHighs}
use Rattle.ctd_limits.proofs.NumberBounds.{narrows}
use Rattle.ctd_limits.proofs.numbers.narrowed.Goals as goal

pub returns : goal.returns
returns c = narrows c.args.range c.from_lows-above.result c.up_to_highs.result c.args.limits.now (subst (λ l. IsFromLows c.args.range l c.from_lows-above.result) c.as_slice.ensures.value c.from_lows-above.ensures) (subst (λ l. IsToHighs c.from_lows-above.result l c.up_to_highs.result) c.as_slice-2.ensures.value c.up_to_highs.ensures)
