use Rattle.ctd_elements.proofs.Limiting.{surely_below}
use Rattle.ctd_elements.proofs.limits.is_surely_below.Goals as goal

pub returns-then-is_above : goal.returns-then-is_above
returns-then-is_above c = λ yes. surely_below c.args.state c.args.limits c.args.b c.loop-high.high-index _ c.loop-high-test.true (c.is_above.ensures c.if-is_above.true)
