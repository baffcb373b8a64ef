use Rattle.std.proofs.Common.{refl}
use Rattle.ctd_partitions.specs.calls.Partitions.{OneStands}
use Rattle.ctd_partitions.proofs.Joining.{state_done, states_done}
use Rattle.ctd_partitions.proofs.partition.are_within.Goals as goal

pub loop-state-preserved : goal.loop-state-preserved
loop-state-preserved c =
    let g = c.args.context in
    let others = c.args.others.now in
    state_done g c.args.states.now c.loop-state.state-index c.state-item.result (λ n h. OneStands g others n h) (λ n h. OneStands g others n h) c.loop-state-test.true c.state-item.is (λ n h one. one) (c.if-not-is_within_one.ensures refl) c.loop-state.invariant

pub returns : goal.returns
returns c = λ yes. states_done c.args.context c.args.states.now c.loop-state.state-index (λ n h. OneStands c.args.context c.args.others.now n h) c.loop-state-test.false c.loop-state.invariant
