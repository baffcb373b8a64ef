use Rattle.ctd_transfer.proofs.Common.{rules}
use Rattle.ctd_transfer.proofs.Deciding.{alike_all, alike_from}
use Rattle.ctd_transfer.proofs.condition.are_all_alike.Goals as goal

pub loop-other-preserved : goal.loop-other-preserved
loop-other-preserved c = alike_from c.args.context c.args.state.now c.args.name.now c.args.others.now c.loop-other.other-index c.other-item.result c.loop-other-test.true c.other-item.is (c.are_alike.ensures (search rules)) c.loop-other.invariant

pub returns : goal.returns
returns c = λ _. alike_all c.args.context c.args.state.now c.args.name.now c.args.others.now c.loop-other.other-index c.loop-other-test.false c.loop-other.invariant
