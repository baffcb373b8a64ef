use Rattle.std.proofs.Common.{[], ap, ◌∙◌}
use Rattle.std.specs.FinMap.{find}
use Rattle.std.specs.Option.{option_or}
use Rattle.std.proofs.lemmas.Option.{IfSome_then}
use Rattle.ctd_store.specs.Order.{values_cmp}
use Rattle.ctd_store.specs.calls.Slot.{pins_in, values_in}
use Rattle.ctd_store.proofs.Slots.{lent_name, array_found}
use Rattle.ctd_store.proofs.store.Store.fast_number.Goals as goal

pub returns : goal.returns
returns c =
    let items = c.self.inside.slots.items in
    let name = lent_name c.deref.result.now items c.in_ok-at.at c.args.name.now c.deref.ensures.value c.in_ok-at.ensures.found in
    let pins = array_found pins_in items c.self.inside.positions c.in_ok-at.at c.args.name.now c.index.result.now c.args.self.now.pins c.self.invariant.0 name c.index.ensures (ap (λ h. h.pins) c.self.view_is) in
    let assigned = array_found values_in items c.self.inside.positions c.in_ok-at.at c.args.name.now c.index.result.now c.args.self.now.assigned c.self.invariant.1 name c.index.ensures (ap (λ h. h.assigned) c.self.view_is) in
    record {
      value = IfSome_then c.fast_number.result c.fast_number.ensures.value (λ n found. (λ i. option_or (find values_cmp [] (pins i)) (find values_cmp [] (assigned i))) ∙ found);
    }
