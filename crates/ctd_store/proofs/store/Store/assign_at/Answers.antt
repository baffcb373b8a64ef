use Rattle.std.proofs.Common.{IsTrue, ap, subst}
use Rattle.std.proofs.lemmas.Result.{on_ok_weaker, on_err_weaker}
use Rattle.ctd_store.specs.calls.Index.{indices_at}
use Rattle.ctd_store.specs.calls.ValueRef.{value_of_ref}
use Rattle.ctd_store.specs.calls.Slot.{pins_in, values_in}
use Rattle.ctd_store.specs.Store.{has_indices}
use Rattle.ctd_store.proofs.Slots.{lent_name, still_placed, array_found, assigned_here, kept_here}
use Rattle.ctd_store.proofs.store.Store.assign_at.Goals as goal

pub invariant_of-self : goal.invariant_of-self
invariant_of-self c =
    let items = c.self.inside.slots.items in
    let name = lent_name c.deref.result.now items c.in-Some.at c.args.name.now c.deref.ensures.value c.in-Some.ensures.found in (
      still_placed pins_in items c.self.inside.positions c.in-Some.at c.args.name.now c.index_mut.result.now c.assign.new.self c.self.invariant.0 name c.index_mut.ensures.value c.assign.ensures.name,
      still_placed values_in items c.self.inside.positions c.in-Some.at c.args.name.now c.index_mut.result.now c.assign.new.self c.self.invariant.1 name c.index_mut.ensures.value c.assign.ensures.name,
    )

pub returns-in-Some-clause-ok : goal.returns-in-Some-clause-ok
returns-in-Some-clause-ok c =
    let items = c.self.inside.slots.items in
    let name = lent_name c.deref.result.now items c.in-Some.at c.args.name.now c.deref.ensures.value c.in-Some.ensures.found in
    on_ok_weaker c.assign.result (λ e.
    assigned_here items c.self.inside.positions c.in-Some.at c.args.name.now c.index_mut.result.now c.assign.new.self c.args.self.now (indices_at c.args.index) (value_of_ref c.args.value) c.self.invariant.0 c.self.invariant.1 name c.index_mut.ensures.value c.assign.ensures.name c.assign.ensures.pins
    c.self.view_is e) c.assign.ensures.ok

pub returns-in-Some-clause-pinned : goal.returns-in-Some-clause-pinned
returns-in-Some-clause-pinned c pinned =
    let items = c.self.inside.slots.items in
    let name = lent_name c.deref.result.now items c.in-Some.at c.args.name.now c.deref.ensures.value c.in-Some.ensures.found in
    let pins = array_found pins_in items c.self.inside.positions c.in-Some.at c.args.name.now c.index_mut.result.now c.args.self.now.pins c.self.invariant.0 name c.index_mut.ensures.value (ap (λ h. h.pins) c.self.view_is) in
    c.assign.ensures.pinned (subst (λ a. IsTrue (has_indices a (indices_at c.args.index))) pins pinned)

pub returns-in-Some-clause-err : goal.returns-in-Some-clause-err
returns-in-Some-clause-err c =
    let items = c.self.inside.slots.items in
    let name = lent_name c.deref.result.now items c.in-Some.at c.args.name.now c.deref.ensures.value c.in-Some.ensures.found in
    on_err_weaker c.assign.result (λ e. kept_here items c.in-Some.at c.args.name.now c.index_mut.result.now c.assign.new.self c.args.self.now name c.index_mut.ensures.value c.assign.ensures.name c.assign.ensures.pins c.self.view_is e) c.assign.ensures.err
