use Rattle.std.proofs.lemmas.Result.{on_ok_weaker}
use Rattle.std.proofs.Common.{subst}
use Rattle.ctd_store.specs.calls.Index.{indices_at}
use Rattle.ctd_store.specs.calls.ValueRef.{value_of_ref}
use Rattle.ctd_store.specs.calls.Slot.{pins_in, values_in}
use Rattle.ctd_store.proofs.Slots.{Unknown, lent_name, still_placed, all_placed, pinned_here, pinned_behind}
use Rattle.ctd_store.proofs.store.Store.pin_at.Goals as goal

pub invariant_of-self : goal.invariant_of-self
invariant_of-self c =
    let items = c.self.inside.slots.items in
    let q = c.args.name.now in
    let name = lent_name c.deref.result.now items c.in-Some.at q c.deref.ensures.value c.in-Some.ensures.found in (
      still_placed pins_in items c.self.inside.positions c.in-Some.at q c.index_mut.result.now c.pin.new.self c.self.invariant.0 name c.index_mut.ensures.value c.pin.ensures.name,
      still_placed values_in items c.self.inside.positions c.in-Some.at q c.index_mut.result.now c.pin.new.self c.self.invariant.1 name c.index_mut.ensures.value c.pin.ensures.name,
    )

pub returns-in-Some : goal.returns-in-Some
returns-in-Some c =
    let items = c.self.inside.slots.items in
    let q = c.args.name.now in
    let name = lent_name c.deref.result.now items c.in-Some.at q c.deref.ensures.value c.in-Some.ensures.found in
    record {
      ok = on_ok_weaker c.pin.result (λ e.
          pinned_here items c.self.inside.positions c.in-Some.at q c.index_mut.result.now c.pin.new.self c.args.self.now (indices_at c.args.index) (value_of_ref c.args.value) c.self.invariant.0 c.self.invariant.1 name c.index_mut.ensures.value c.pin.ensures.name c.pin.ensures.values c.self.view_is e) c.pin.ensures.ok;
    }

pub invariant_of-self-in-None : goal.invariant_of-self-in-None
invariant_of-self-in-None c =
    let items = c.self.inside.slots.items in
    let q = c.args.name.now in
    let unknown = subst (λ l. Unknown l c.self.inside.positions q) c.deref.ensures.value c.in-None.ensures.none in (
      all_placed pins_in c.add_slot.result items c.add_slot.new.slots.items c.self.inside.positions c.add_slot.new.positions c.in_ok-slot-in-None.slot q c.in_ok-slot-in-None.ensures.name c.self.invariant.0 unknown c.add_slot.ensures.ok c.add_slot.ensures.err,
      all_placed values_in c.add_slot.result items c.add_slot.new.slots.items c.self.inside.positions c.add_slot.new.positions c.in_ok-slot-in-None.slot q c.in_ok-slot-in-None.ensures.name c.self.invariant.1 unknown c.add_slot.ensures.ok c.add_slot.ensures.err,
    )

pub returns-in_ok-slot-in-None : goal.returns-in_ok-slot-in-None
returns-in_ok-slot-in-None c =
    let items = c.self.inside.slots.items in
    let q = c.args.name.now in
    let unknown = subst (λ l. Unknown l c.self.inside.positions q) c.deref.ensures.value c.in-None.ensures.none in
    record {
      ok = on_ok_weaker c.add_slot.result (λ e.
          pinned_behind items c.add_slot.new.slots.items c.self.inside.positions c.in_ok-slot-in-None.slot q c.args.self.now (indices_at c.args.index) (value_of_ref c.args.value) c.in_ok-slot-in-None.ensures.name c.in_ok-slot-in-None.ensures.pins c.in_ok-slot-in-None.ensures.values c.self.invariant.0 c.self.invariant.1 unknown c.self.view_is e.0) c.add_slot.ensures.ok;
    }
