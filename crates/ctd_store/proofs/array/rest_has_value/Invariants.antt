use Rattle.std.proofs.Common.{◌≡◌}
use Rattle.std.specs.List.{list_any}
use Rattle.ctd_store.specs.calls.ValueRef.{value_of_ref}
use Rattle.ctd_store.specs.calls.Places.{listed, place_entries}
use Rattle.ctd_store.specs.inner.Reading.{visible_entries}
use Rattle.ctd_store.specs.Order.{same_value}
use Rattle.ctd_store.specs.Store.{first_of_each}
use Rattle.ctd_store.proofs.array.rest_has_value.Given as goal

abbrev pub invariant-loop-indices : goal.invariant-loop-indices
invariant-loop-indices l =
    list_any (λ e. same_value (value_of_ref l.value) e.1) (visible_entries (place_entries l.places) (first_of_each (listed l.rest.entries)))
    ≡ list_any (λ e. same_value (value_of_ref l.value) e.1) (visible_entries (place_entries l.places) (listed l.indices-iterator))
