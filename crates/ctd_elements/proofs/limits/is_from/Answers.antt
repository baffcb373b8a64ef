use Rattle.ctd_elements.proofs.Limiting.{limited_from}
use Rattle.ctd_elements.proofs.limits.is_from.Goals as goal

pub returns-then-is_at_most : goal.returns-then-is_at_most
returns-then-is_at_most c = λ yes. limited_from c.args.state c.args.limits c.args.b c.loop-low.low-index _ c.loop-low-test.true (c.is_at_most.ensures c.if-is_at_most.true)
