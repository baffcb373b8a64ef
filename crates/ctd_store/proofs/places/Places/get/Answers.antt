use Rattle.std.proofs.Common.{[], ap, sym, ◌∙◌}
use Rattle.std.specs.FinMap.{find}
use Rattle.ctd_store.specs.calls.Places.{place_entries}
use Rattle.ctd_store.specs.Order.{values_cmp}
use Rattle.ctd_store.proofs.Placed.{found_scalar, found_in_row, found_in_cells, none_placed, none_of, one_of, two_of}
use Rattle.ctd_store.proofs.places.Places.get.Goals as goal

pub returns-in-empty : goal.returns-in-empty
returns-in-empty c = record {
  value = c.value.ensures ∙ sym (ap (λ q. find values_cmp q (place_entries c.args.self.now)) (none_of c.args.indices.now c.in-empty.len_below) ∙ found_scalar c.args.self.now);
}

pub returns-in-len1 : goal.returns-in-len1
returns-in-len1 c = record {
  value = c.get.ensures.value []
      ∙ sym (ap (λ q. find values_cmp q (place_entries c.args.self.now)) (one_of c.args.indices.now c.index-item.result c.in-len1.len_at_least c.in-len1.len_below c.index-item.is) ∙ found_in_row c.index-item.result c.args.self.now);
}

pub returns-in-len2 : goal.returns-in-len2
returns-in-len2 c = record {
  value = c.get-in-len2.ensures.value
      ∙ sym (ap (λ q. find values_cmp q (place_entries c.args.self.now)) (two_of c.args.indices.now c.row-item.result c.column-item.result c.in-len2.len_at_least c.in-len2.len_below c.row-item.is c.column-item.is) ∙ found_in_cells c.row-item.result c.column-item.result c.args.self.now);
}

pub returns-in_default : goal.returns-in_default
returns-in_default c = record { value = sym (none_placed c.args.indices.now c.args.self.now c.in_default.len_at_least) }
