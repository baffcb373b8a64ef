use Rattle.std.proofs.Common.{map}
use Rattle.std.proofs.lemmas.Result.{on_ok_weaker}
use Rattle.ctd_store.specs.calls.Showing.{entry}
use Rattle.ctd_store.specs.calls.Places.{listed, place_entries}
use Rattle.ctd_store.proofs.Listed.{entries_added}
use Rattle.ctd_store.proofs.Placed.{once_placed}
use Rattle.ctd_store.proofs.array.Array.add_entries.Goals as goal

pub returns : goal.returns
returns c = record {
  added = on_ok_weaker c.add_rest.result (λ e.
      entries_added (map entry c.args.entries.now.items) (map entry c.add_entries.new.entries.items) (map entry c.add_rest.new.entries.items) (place_entries c.self.inside.places) (listed c.self.inside.rest.entries) c.args.self.now c.self.view_is (once_placed c.self.inside.places)
      c.in_ok-add_entries.ensures.added e) c.add_rest.ensures.added;
}
