use Rattle.std.proofs.Common.{[], ap, sym, ◌∙◌}
use Rattle.std.specs.FinMap.{find}
use Rattle.ctd_store.specs.calls.Index.{indices_at}
use Rattle.ctd_store.specs.calls.Places.{place_entries}
use Rattle.ctd_store.specs.Order.{values_cmp}
use Rattle.ctd_store.proofs.Cells.{at_number}
use Rattle.ctd_store.proofs.Placed.{found_in_row, found_in_cells}
use Rattle.ctd_store.proofs.Slots.{lent_value}
use Rattle.ctd_store.proofs.places.Places.at.Goals as goal

pub returns-in-One : goal.returns-in-One
returns-in-One c = record {
  value = lent_value c.at.result _ (c.at.ensures.value []
      ∙ sym (ap (λ i. find values_cmp (indices_at i) (place_entries c.args.self.now)) c.in-One.is ∙ found_in_row (at_number c.in-One.number) c.args.self.now));
}

pub returns-in-Two : goal.returns-in-Two
returns-in-Two c = record {
  value = lent_value c.at-in-Two.result _ (c.at-in-Two.ensures.value
      ∙ sym (ap (λ i. find values_cmp (indices_at i) (place_entries c.args.self.now)) c.in-Two.is ∙ found_in_cells (at_number c.in-Two.row) (at_number c.in-Two.column) c.args.self.now));
}
