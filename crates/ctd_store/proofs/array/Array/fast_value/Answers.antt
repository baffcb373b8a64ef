use Rattle.std.proofs.lemmas.Option.{IfSome_then}
use Rattle.ctd_store.specs.calls.Index.{indices_at}
use Rattle.ctd_store.specs.calls.Places.{listed, place_entries}
use Rattle.ctd_store.proofs.Listed.{found_first}
use Rattle.ctd_store.proofs.array.Array.fast_value.Goals as goal

pub returns : goal.returns
returns c = record {
  value = IfSome_then c.at.result c.at.ensures.value (λ x found. found_first (indices_at c.args.index) x.now (place_entries c.self.inside.places) (listed c.self.inside.rest.entries) c.args.self.now c.self.view_is found);
}
