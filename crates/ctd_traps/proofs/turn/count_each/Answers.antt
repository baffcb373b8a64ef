use Rattle.ctd_traps.proofs.Common.{boxed_target}
use Rattle.ctd_traps.proofs.Turning.{count_done, count_step}
use Rattle.ctd_traps.proofs.turn.count_each.Goals as goal

pub loop-state-preserved : goal.loop-state-preserved
loop-state-preserved c =
    let own = c.in_ok-own.own in
    count_step c.args.context c.args.states.now c.loop-state.state-index c.state-item.result (boxed_target c.args.counter.now) c.args.turn c.args.phase c.args.by c.args.counting.now c.in_ok-paid.paid own.after own.faults c.loop-state.faults c.union-faults.result
    c.loop-state.after.items c.in_ok-after.after.items c.loop-state-test.true c.state-item.is c.in_ok-paid.ensures c.in_ok-own.ensures c.in_ok-after.ensures.others c.in_ok-after.ensures.added c.union-faults.ensures.first c.union-faults.ensures.second c.loop-state.invariant

pub returns : goal.returns
returns c = count_done c.args.context c.args.states.now c.loop-state.state-index (boxed_target c.args.counter.now) c.args.turn c.args.phase c.args.by c.args.counting.now c.loop-state.after.items c.loop-state.faults c.loop-state-test.false c.loop-state.invariant
