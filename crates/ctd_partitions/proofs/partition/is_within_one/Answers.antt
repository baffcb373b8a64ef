use Rattle.ctd_partitions.proofs.Joining.{state_within}
use Rattle.ctd_partitions.proofs.partition.is_within_one.Goals as goal

pub returns-then-is_within : goal.returns-then-is_within
returns-then-is_within c = λ yes. state_within c.args.context c.args.others.now c.loop-other.other-index c.other-item.result c.args.state.now c.loop-other-test.true c.other-item.is (c.is_within.ensures c.if-is_within.true)
