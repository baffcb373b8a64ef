use Rattle.std.proofs.Common.{[], ap, ◌∙◌}
use Rattle.std.proofs.Math.Facts.{to_z-of_z}
use Rattle.ctd_store.specs.Store.{assign}
use Rattle.ctd_store.specs.declared.value.Value.TheVariants as values
use Rattle.ctd_store.specs.calls.Slot.{pins_in, values_in}
use Rattle.ctd_store.proofs.Slots.{lent_name, still_placed, assigned_here, kept_here}
use Rattle.ctd_store.proofs.store.Store.put_number.Goals as goal

pub invariant_of-self : goal.invariant_of-self
invariant_of-self c =
    let items = c.self.inside.slots.items in
    let name = lent_name c.deref.result.now items c.in-Some.at c.args.name.now c.deref.ensures.value c.in-Some.ensures.found in (
      still_placed pins_in items c.self.inside.positions c.in-Some.at c.args.name.now c.index_mut.result.now c.put_number.new.self c.self.invariant.0 name c.index_mut.ensures.value c.put_number.ensures.name,
      still_placed values_in items c.self.inside.positions c.in-Some.at c.args.name.now c.index_mut.result.now c.put_number.new.self c.self.invariant.1 name c.index_mut.ensures.value c.put_number.ensures.name,
    )

pub returns-in-Some-clause-done : goal.returns-in-Some-clause-done
returns-in-Some-clause-done c done =
    let items = c.self.inside.slots.items in
    let name = lent_name c.deref.result.now items c.in-Some.at c.args.name.now c.deref.ensures.value c.in-Some.ensures.found in
    assigned_here items c.self.inside.positions c.in-Some.at c.args.name.now c.index_mut.result.now c.put_number.new.self c.args.self.now [] (values.Int _) c.self.invariant.0 c.self.invariant.1 name c.index_mut.ensures.value c.put_number.ensures.name c.put_number.ensures.pins
    c.self.view_is (c.put_number.ensures.done done)
    ∙ ap (λ n. assign c.args.self.now (record { name = c.args.name.now; indices = [] }) (values.Int n)) (to_z-of_z c.ranges.n)

pub returns-in-Some-clause-stays : goal.returns-in-Some-clause-stays
returns-in-Some-clause-stays c stays =
    let items = c.self.inside.slots.items in
    let name = lent_name c.deref.result.now items c.in-Some.at c.args.name.now c.deref.ensures.value c.in-Some.ensures.found in
    kept_here items c.in-Some.at c.args.name.now c.index_mut.result.now c.put_number.new.self c.args.self.now name c.index_mut.ensures.value c.put_number.ensures.name c.put_number.ensures.pins c.self.view_is (c.put_number.ensures.stays stays)
