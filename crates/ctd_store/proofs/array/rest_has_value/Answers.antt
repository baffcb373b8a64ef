use Rattle.std.proofs.Common.{ap, sym, ◌∙◌}
use Rattle.std.specs.List.{list_any}
use Rattle.ctd_store.specs.calls.ValueRef.{value_of_ref}
use Rattle.ctd_store.specs.calls.Places.{listed, place_entries}
use Rattle.ctd_store.specs.inner.Reading.{visible_entries}
use Rattle.ctd_store.specs.Order.{same_value}
use Rattle.ctd_store.proofs.Listed.{first_listed}
use Rattle.ctd_store.proofs.array.rest_has_value.Goals as goal

pub loop-indices-init : goal.loop-indices-init
loop-indices-init c =
    let gives = c.into_iter-indices-iterator.ensures.into_iter_gives in
    ap (λ es. list_any (λ e. same_value (value_of_ref c.args.value) e.1) (visible_entries (place_entries c.args.places.now) es)) (first_listed c.args.rest.now.entries gives.4 ∙ ap listed (sym gives.0))
