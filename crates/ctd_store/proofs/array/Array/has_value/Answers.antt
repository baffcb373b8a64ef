use Rattle.std.proofs.Common.{◌||◌, ap, sym, ◌∙◌}
use Rattle.std.specs.List.{list_any}
use Rattle.ctd_store.specs.calls.ValueRef.{value_of_ref}
use Rattle.ctd_store.specs.calls.Places.{listed, place_entries}
use Rattle.ctd_store.specs.inner.Reading.{visible_entries}
use Rattle.ctd_store.specs.Order.{same_value}
use Rattle.ctd_store.specs.Store.{first_of_each}
use Rattle.ctd_store.proofs.Listed.{any_in_both}
use Rattle.ctd_store.proofs.Placed.{once_placed}
use Rattle.ctd_store.proofs.array.Array.has_value.Goals as goal

pub returns-then-has_value : goal.returns-then-has_value
returns-then-has_value c =
    let F = λ (e : _ × _). same_value (value_of_ref c.args.value) e.1 in
    let a = place_entries c.self.inside.places in
    let b = listed c.self.inside.rest.entries in
    record {
      value = c.if-has_value.true
          ∙ sym (any_in_both F a b c.args.self.now c.self.view_is (once_placed c.self.inside.places) ∙ ap (λ t. t || list_any F (visible_entries a (first_of_each b))) (sym c.has_value.ensures.value ∙ c.if-has_value.true));
    }

pub returns-else-has_value : goal.returns-else-has_value
returns-else-has_value c =
    let F = λ (e : _ × _). same_value (value_of_ref c.args.value) e.1 in
    let a = place_entries c.self.inside.places in
    let b = listed c.self.inside.rest.entries in
    record {
      value = c.rest_has_value.ensures.value
          ∙ sym (any_in_both F a b c.args.self.now c.self.view_is (once_placed c.self.inside.places) ∙ ap (λ t. t || list_any F (visible_entries a (first_of_each b))) (sym c.has_value.ensures.value ∙ c.if-has_value.false));
    }
