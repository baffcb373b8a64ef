use Rattle.std.proofs.Common.{◌≡◌, [], length, ap, sym, ◌∙◌, arith}
use Rattle.std.proofs.lemmas.Grind.{common_steps}
use Rattle.ctd_store.specs.calls.Store.{numbered}
use Rattle.ctd_store.proofs.Placed.{row_alone}
use Rattle.ctd_store.proofs.places.Places.row_alone.Goals as goal

pub returns : goal.returns
returns c =
    let empty : length c.args.self.now.grid.rows.items ≡ 0 = grind (arith, common_steps, c.if-not-is_empty.false, c.is_empty.ensures) in
    record { value = row_alone c.args.self.now (sym c.is_some.ensures ∙ c.if-is_some.false) empty ∙ ap (numbered [] c.args.self.now.row.base) (sym c.deref.ensures.value) }
