use Rattle.std.proofs.Common.{◌++◌, map, ap, sym, ◌∙◌}
use Rattle.ctd_store.specs.calls.Showing.{entry}
use Rattle.ctd_store.specs.calls.Places.{listed, place_entries}
use Rattle.ctd_store.specs.inner.Reading.{visible_entries}
use Rattle.ctd_store.proofs.Listed.{first_listed}
use Rattle.ctd_store.proofs.array.add_rest.Goals as goal

pub loop-indices-init : goal.loop-indices-init
loop-indices-init c =
    let gives = c.into_iter-indices-iterator.ensures.into_iter_gives in
    ap (λ es. map entry c.args.entries.now.items ++ visible_entries (place_entries c.args.places.now) es) (ap listed gives.0 ∙ sym (first_listed c.args.rest.now.entries gives.4))
