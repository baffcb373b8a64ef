use Rattle.ctd_transfer.proofs.Common.{test_tree}
use Rattle.ctd_transfer.proofs.Dividing.{divide_done, divide_step}
use Rattle.ctd_transfer.proofs.answer.divide_each.Goals as goal

pub loop-state-preserved : goal.loop-state-preserved
loop-state-preserved c =
    let decided = c.in_ok-decided.decided in
    let yes = c.in_ok-if_true.ensures in
    let no = c.in_ok-if_false.ensures in
    divide_step c.args.context c.args.states.now c.loop-state.state-index c.state-item.result (test_tree c.args.t.now) decided.if_true decided.if_false decided.faults c.loop-state.faults c.union-faults.result
    c.loop-state.if_true.items c.loop-state.if_false.items c.in_ok-if_true.if_true.items c.in_ok-if_false.if_false.items c.loop-state-test.true c.state-item.is c.in_ok-decided.ensures yes.others yes.added no.others no.added c.union-faults.ensures.first c.union-faults.ensures.second c.loop-state.invariant

pub returns : goal.returns
returns c = divide_done c.args.context c.args.states.now c.loop-state.state-index (test_tree c.args.t.now) c.loop-state.if_true.items c.loop-state.if_false.items c.loop-state.faults c.loop-state-test.false c.loop-state.invariant
