use Rattle.ctd_traps.proofs.Common.{AbstractState, OneStands, inl, ◌∙◌}
use Rattle.ctd_partitions.proofs.Joining.{state_done, states_done}
use Rattle.ctd_traps.proofs.Widening.{no_facts_within}
use Rattle.ctd_traps.proofs.widest.without_facts.Goals as goal

pub loop-state-init : goal.loop-state-init
loop-state-init c = λ n h one. inl one

pub loop-state-preserved : goal.loop-state-preserved
loop-state-preserved c =
    let g = c.args.context in
    let state = c.state-item.result in
    let own : AbstractState = record { entries = c.in_ok-entries.entries; facts = c.new-facts.result } in
    let added = c.in_ok-wider.ensures in
    state_done g c.args.states.now c.loop-state.state-index state (λ n h. OneStands g c.loop-state.wider.items n h) (λ n h. OneStands g c.in_ok-wider.wider.items n h) c.loop-state-test.true c.state-item.is
    added.others (λ n h stands. added.added n h (no_facts_within g state own (c.in_ok-entries.ensures ∙ c.as_slice.ensures.value) c.new-facts.ensures.items n h stands)) c.loop-state.invariant

pub returns : goal.returns
returns c = states_done c.args.context c.args.states.now c.loop-state.state-index (λ n h. OneStands c.args.context c.loop-state.wider.items n h) c.loop-state-test.false c.loop-state.invariant
