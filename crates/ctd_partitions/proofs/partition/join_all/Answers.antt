use Rattle.ctd_partitions.specs.calls.States.{StateStands}
use Rattle.ctd_partitions.proofs.Joining.{state_done, states_done}
use Rattle.ctd_partitions.proofs.partition.join_all.Goals as goal

pub loop-state-preserved : goal.loop-state-preserved
loop-state-preserved c =
    let g = c.args.context in
    let joined = c.in_ok-all.ensures in
    state_done g c.args.states.now c.loop-state.state-index c.state-item.result (λ n h. StateStands g c.loop-state.all n h) (λ n h. StateStands g c.in_ok-all.all n h) c.loop-state-test.true c.state-item.is joined.left joined.right c.loop-state.invariant

pub returns : goal.returns
returns c = states_done c.args.context c.args.states.now c.loop-state.state-index (λ n h. StateStands c.args.context c.loop-state.all n h) c.loop-state-test.false c.loop-state.invariant
