use Rattle.std.proofs.Common.{subst, ◌++◌}
use Rattle.ctd_states.specs.calls.Changed.{AssignsAlone}
use Rattle.ctd_states.specs.calls.States.{entries_in, pins_in}
use Rattle.ctd_partitions.proofs.Changing.{name_tidied, when_ok}
use Rattle.ctd_partitions.proofs.change.assign_alone.Goals as goal

pub returns : goal.returns
returns c =
    let g = c.args.context in
    let name = c.args.name.now in
    let entries = c.in_ok-entries.entries.items in
    let facts = c.in_ok-facts.facts in
    when_ok c.tidied.result (λ after is. name_tidied g c.args.state.now after name c.args.possible c.args.limits entries (facts.staying.items ++ facts.changed.items)
    (subst (λ l. AssignsAlone (pins_in g) (entries_in g l) name c.args.possible (entries_in g entries)) c.as_slice.ensures.value c.in_ok-entries.ensures) c.in_ok-facts.ensures is) c.tidied.ensures
