use Rattle.ctd_elements.proofs.Bounds.{one_orders}
use Rattle.ctd_elements.proofs.order.is_at_most.Goals as goal

pub returns-then-is_at_most_by : goal.returns-then-is_at_most_by
returns-then-is_at_most_by c = λ yes. one_orders c.args.state c.loop-fact.fact-index _ c.args.a c.args.b c.loop-fact-test.true (c.is_at_most_by.ensures c.if-is_at_most_by.true)
