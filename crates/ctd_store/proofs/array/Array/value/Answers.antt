use Rattle.std.proofs.Common.{rules, ap, sym, ◌∙◌}
use Rattle.std.specs.FinMap.{find}
use Rattle.ctd_store.specs.calls.Index.{indices_at}
use Rattle.ctd_store.specs.calls.Places.{listed, place_entries}
use Rattle.ctd_store.specs.Order.{values_cmp}
use Rattle.ctd_store.proofs.Listed.{found_first, scalar_found}
use Rattle.ctd_store.proofs.array.Array.value.Goals as goal

pub returns-in-Scalar : goal.returns-in-Scalar
returns-in-Scalar c = record {
  value = c.value.ensures
      ∙ sym (ap (λ i. find values_cmp (indices_at i) c.args.self.now) c.in-Scalar.is ∙ scalar_found c.self.inside.places (listed c.self.inside.rest.entries) c.args.self.now c.self.view_is c.self.invariant);
}

pub returns-in-Some : goal.returns-in-Some
returns-in-Some c = record { value = sym (found_first (indices_at c.args.index) c.in-Some.value.now (place_entries c.self.inside.places) (listed c.self.inside.rest.entries) c.args.self.now c.self.view_is c.in-Some.ensures.value) }

pub returns-in-None : goal.returns-in-None
returns-in-None c = search rules
