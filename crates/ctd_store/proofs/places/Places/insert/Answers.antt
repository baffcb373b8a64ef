use Rattle.std.proofs.Common.{[], ◌∷◌, length, ap, sym, ◌∙◌, arith}
use Rattle.std.specs.FinMap.{find}
use Rattle.ctd_store.specs.calls.ValueRef.{value_of_ref}
use Rattle.ctd_store.specs.calls.Places.{along, cells, place_entries}
use Rattle.ctd_store.specs.Order.{values_cmp}
use Rattle.ctd_store.proofs.Placed.{found_in_row, found_in_cells, none_placed, one_of, two_of, written_row, written_cells}
use Rattle.ctd_store.proofs.places.Places.insert.Goals as goal

pub returns-in-len1-clause-done : goal.returns-in-len1-clause-done
returns-in-len1-clause-done c done q =
    let self = c.args.self.now in
    written_row c.index-item.result (value_of_ref c.args.value) self.scalar (along [] c.insert.new.self) (along [] self.row) (cells self.grid) (c.insert.ensures.done done []) q
    ∙ ap (λ k. find values_cmp q ((k, value_of_ref c.args.value) ∷ place_entries self)) (sym (one_of c.args.indices.now c.index-item.result c.in-len1.len_at_least c.in-len1.len_below c.index-item.is))

pub returns-in-len1-clause-elsewhere : goal.returns-in-len1-clause-elsewhere
returns-in-len1-clause-elsewhere c stays =
    ap (λ q. find values_cmp q (place_entries c.args.self.now)) (one_of c.args.indices.now c.index-item.result c.in-len1.len_at_least c.in-len1.len_below c.index-item.is)
    ∙ found_in_row c.index-item.result c.args.self.now
    ∙ c.insert.ensures.elsewhere stays []

pub returns-in-len2-clause-done : goal.returns-in-len2-clause-done
returns-in-len2-clause-done c done q =
    let self = c.args.self.now in
    written_cells c.row-item.result c.column-item.result (value_of_ref c.args.value) self.scalar self.row (cells c.insert-in-len2.new.self) (cells self.grid) (c.insert-in-len2.ensures.done done) q
    ∙ ap (λ k. find values_cmp q ((k, value_of_ref c.args.value) ∷ place_entries self)) (sym (two_of c.args.indices.now c.row-item.result c.column-item.result c.in-len2.len_at_least c.in-len2.len_below c.row-item.is c.column-item.is))

pub returns-in-len2-clause-elsewhere : goal.returns-in-len2-clause-elsewhere
returns-in-len2-clause-elsewhere c stays =
    ap (λ q. find values_cmp q (place_entries c.args.self.now)) (two_of c.args.indices.now c.row-item.result c.column-item.result c.in-len2.len_at_least c.in-len2.len_below c.row-item.is c.column-item.is)
    ∙ found_in_cells c.row-item.result c.column-item.result c.args.self.now
    ∙ c.insert-in-len2.ensures.elsewhere stays

pub returns-in_default-clause-elsewhere : goal.returns-in_default-clause-elsewhere
returns-in_default-clause-elsewhere c _ = none_placed c.args.indices.now c.args.self.now c.in_default.len_at_least

pub returns-in-len1-clause-indexed : goal.returns-in-len1-clause-indexed
returns-in-len1-clause-indexed c _ e = let none = ap length e in omega (arith, none, c.in-len1.len_at_least)

pub returns-in-len2-clause-indexed : goal.returns-in-len2-clause-indexed
returns-in-len2-clause-indexed c _ e = let none = ap length e in omega (arith, none, c.in-len2.len_at_least)

pub returns-in_default-clause-indexed : goal.returns-in_default-clause-indexed
returns-in_default-clause-indexed c _ e = let none = ap length e in omega (arith, none, c.in_default.len_at_least)
