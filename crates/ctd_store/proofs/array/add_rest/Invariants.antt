use Rattle.std.proofs.Common.{◌≡◌, ◌++◌, map}
use Rattle.ctd_store.specs.calls.Showing.{entry}
use Rattle.ctd_store.specs.calls.Places.{listed, place_entries}
use Rattle.ctd_store.specs.inner.Reading.{visible_entries}
use Rattle.ctd_store.specs.Store.{first_of_each}
use Rattle.ctd_store.proofs.array.add_rest.Given as goal

abbrev pub invariant-loop-indices : goal.invariant-loop-indices
invariant-loop-indices l =
    map entry l.entries.items ++ visible_entries (place_entries l.places) (listed l.indices-iterator)
    ≡ map entry l.fn.entries.items ++ visible_entries (place_entries l.places) (first_of_each (listed l.rest.entries))
