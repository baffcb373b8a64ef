use Rattle.std.proofs.Common.{[], ◌∷◌, ◌++◌, ◌+◌, length, refl, ap, ◌∙◌}
use Rattle.std.specs.FinMap.{find}
use Rattle.ctd_store.specs.declared.line.Line.{Line}
use Rattle.ctd_store.specs.calls.ValueRef.{value_of_ref}
use Rattle.ctd_store.specs.calls.Places.{grid}
use Rattle.ctd_store.specs.Order.{values_cmp}
use Rattle.ctd_store.proofs.Cells.{row_added}
use Rattle.ctd_store.proofs.grid.add_row.Goals as goal

pub returns-clause-ok : goal.returns-clause-ok
returns-clause-ok c =
    let rows = c.args.rows.now.items in
    let row : Line = record { base = c.args.column; values = c.in_ok-values.values } in
    λ base q.
    ap (λ rs. find values_cmp q (grid base rs)) (c.push_reserved.ensures.items ∙ ap (λ rs. rs ++ row ∷ []) c.reserve.ensures.items)
    ∙ row_added base (base + length rows) rows row (value_of_ref c.args.value) refl c.in_ok-values.ensures.value q
