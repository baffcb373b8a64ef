use Rattle.ctd_transfer.proofs.Common.{command_tree}
use Rattle.ctd_transfer.proofs.Plain.{act_done, act_step}
use Rattle.ctd_transfer.proofs.transfer.transfer_each.Goals as goal

pub loop-state-preserved : goal.loop-state-preserved
loop-state-preserved c =
    let own = c.in_ok-own.own in
    act_step c.args.context c.args.states.now c.loop-state.state-index c.state-item.result (command_tree c.args.command.now) own.after own.faults c.loop-state.faults c.union-faults.result c.loop-state.after.items c.in_ok-after.after.items c.loop-state-test.true c.state-item.is c.in_ok-own.ensures
    c.in_ok-after.ensures.others c.in_ok-after.ensures.added c.union-faults.ensures.first c.union-faults.ensures.second c.loop-state.invariant

pub returns : goal.returns
returns c = act_done c.args.context c.args.states.now c.loop-state.state-index (command_tree c.args.command.now) c.loop-state.after.items c.loop-state.faults c.loop-state-test.false c.loop-state.invariant
