use Rattle.std.proofs.Common.{sym, ◌∙◌}
use Rattle.ctd_store.specs.calls.Places.{listed, place_entries}
use Rattle.ctd_store.proofs.Listed.{found_first, found_second}
use Rattle.ctd_store.proofs.array.Array.get.Goals as goal

pub returns-in-Some : goal.returns-in-Some
returns-in-Some c = record { value = sym (found_first c.args.indices.now c.in-Some.value.now (place_entries c.self.inside.places) (listed c.self.inside.rest.entries) c.args.self.now c.self.view_is (sym c.in-Some.ensures.value)) }

pub returns-in-None : goal.returns-in-None
returns-in-None c = record {
  value = c.value_in_rest.ensures.value
      ∙ sym (found_second c.args.indices.now (place_entries c.self.inside.places) (listed c.self.inside.rest.entries) c.args.self.now c.self.view_is (sym c.in-None.ensures.value));
}
