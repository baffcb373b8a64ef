use Rattle.ctd_elements.proofs.Limiting.{limited_to}
use Rattle.ctd_elements.proofs.limits.is_up_to.Goals as goal

pub returns-then-is_at_most : goal.returns-then-is_at_most
returns-then-is_at_most c = λ yes. limited_to c.args.state c.args.limits c.args.b c.loop-high.high-index _ c.loop-high-test.true (c.is_at_most.ensures c.if-is_at_most.true)
