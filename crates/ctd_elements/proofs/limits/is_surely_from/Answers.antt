use Rattle.ctd_elements.proofs.Limiting.{surely_from}
use Rattle.ctd_elements.proofs.limits.is_surely_from.Goals as goal

pub returns-then-is_before : goal.returns-then-is_before
returns-then-is_before c = λ yes. surely_from c.args.state c.args.limits c.args.b c.loop-low.low-index _ c.loop-low-test.true (c.is_before.ensures c.if-is_before.true)
