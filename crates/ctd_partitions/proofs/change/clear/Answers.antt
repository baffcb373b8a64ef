use Rattle.std.proofs.Common.{subst}
use Rattle.ctd_states.specs.calls.Changed.{Clears}
use Rattle.ctd_states.specs.calls.States.{entries_in, pins_in}
use Rattle.ctd_element_changes.specs.calls.Changes.{KeepsBeside}
use Rattle.ctd_partitions.specs.declared.state.State.{State}
use Rattle.ctd_partitions.proofs.Changing.{name_cleared}
use Rattle.ctd_partitions.proofs.change.clear.Goals as goal

pub returns : goal.returns
returns c =
    let g = c.args.context in
    let name = c.args.name.now in
    let after : State = record { entries = c.in_ok-entries.entries; facts = c.in_ok-facts.facts } in
    name_cleared g c.args.state.now after name (subst (λ l. Clears (pins_in g) (entries_in g l) name (entries_in g c.in_ok-entries.entries.items)) c.as_slice-2.ensures.value c.in_ok-entries.ensures)
    (subst (λ l. KeepsBeside g.names.now l name c.in_ok-facts.facts.items) c.as_slice.ensures.value c.in_ok-facts.ensures)
