use Rattle.ctd_elements.proofs.Following.{one_of_known}
use Rattle.ctd_elements.proofs.follow.is_known.Goals as goal

pub returns-then-is_same_fact : goal.returns-then-is_same_fact
returns-then-is_same_fact c = λ yes. one_of_known c.args.state c.args.fact c.loop-other.other-index _ c.loop-other-test.true (c.is_same_fact.ensures c.if-is_same_fact.true)
