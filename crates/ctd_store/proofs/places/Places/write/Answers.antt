use Rattle.std.proofs.Common.{[], ◌∷◌, ap, sym, ◌∙◌}
use Rattle.std.specs.FinMap.{find}
use Rattle.ctd_store.specs.calls.Index.{indices_at}
use Rattle.ctd_store.specs.calls.ValueRef.{value_of_ref}
use Rattle.ctd_store.specs.calls.Places.{along, cells, place_entries}
use Rattle.ctd_store.specs.Order.{values_cmp}
use Rattle.ctd_store.proofs.Cells.{at_number}
use Rattle.ctd_store.proofs.Placed.{written_row, written_cells}
use Rattle.ctd_store.proofs.places.Places.write.Goals as goal

pub returns-in-One-clause-done : goal.returns-in-One-clause-done
returns-in-One-clause-done c done q =
    let self = c.args.self.now in
    written_row (at_number c.in-One.number) (value_of_ref c.args.value) self.scalar (along [] c.write-in-One.new.self) (along [] self.row) (cells self.grid) (c.write-in-One.ensures.done done []) q
    ∙ ap (λ i. find values_cmp q ((indices_at i, value_of_ref c.args.value) ∷ place_entries self)) (sym c.in-One.is)

pub returns-in-Two-clause-done : goal.returns-in-Two-clause-done
returns-in-Two-clause-done c done q =
    let self = c.args.self.now in
    written_cells (at_number c.in-Two.row) (at_number c.in-Two.column) (value_of_ref c.args.value) self.scalar self.row (cells c.write-in-Two.new.self) (cells self.grid) (c.write-in-Two.ensures.done done) q
    ∙ ap (λ i. find values_cmp q ((indices_at i, value_of_ref c.args.value) ∷ place_entries self)) (sym c.in-Two.is)
