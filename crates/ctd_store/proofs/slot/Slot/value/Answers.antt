use Rattle.std.proofs.Common.{[], ap, sym, ◌∙◌}
use Rattle.std.specs.FinMap.{find}
use Rattle.std.specs.Option.{option_or, unwrap_or}
use Rattle.ctd_store.specs.calls.Index.{indices_at}
use Rattle.ctd_store.specs.Order.{values_cmp}
use Rattle.ctd_store.proofs.slot.Slot.value.Goals as goal

pub returns-in-Some : goal.returns-in-Some
returns-in-Some c =
    let same = c.as_slice.ensures.value ∙ c.to_indices.ensures.same in
    record {
      value = c.value_under_pins.ensures.value
          ∙ (λ k. option_or (find values_cmp (same k) (unwrap_or (sym c.in-Some.is k) [])) (find values_cmp (same k) c.args.self.now.values));
    }

pub returns-in-None : goal.returns-in-None
returns-in-None c = record {
  value = c.value.ensures.value
      ∙ ap (λ p. option_or (find values_cmp (indices_at c.args.index) (unwrap_or p [])) (find values_cmp (indices_at c.args.index) c.args.self.now.values)) (sym c.in-None.is);
}
