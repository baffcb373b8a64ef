use Rattle.std.proofs.Common.{[], IsTrue, sym, subst, ◌∙◌}
use Rattle.std.specs.Option.{unwrap_or}
use Rattle.ctd_store.specs.calls.Index.{indices_at}
use Rattle.ctd_store.specs.calls.ValueRef.{value_of_ref}
use Rattle.ctd_store.specs.inner.Store.{are_apart}
use Rattle.ctd_store.proofs.Apart.{pinned_after}
use Rattle.ctd_store.proofs.slot.Slot.pin.Goals as goal

pub invariant_of-self : goal.invariant_of-self
invariant_of-self c =
    let before = subst (λ o. IsTrue (are_apart (unwrap_or o []) c.unset.new.self.values)) c.in-Some.is c.unset.new.self.apart in
    record {
      apart = pinned_after c.insert.result c.in-Some.pins c.insert.new.self c.begin_behind.new.self (indices_at c.args.index) (value_of_ref c.args.value)
          (subst (λ vs. IsTrue (are_apart c.in-Some.pins vs)) (sym c.begin_behind.ensures.same) before) (c.begin_behind.ensures.same ∙ c.unset.ensures.values) c.insert.ensures.ok c.insert.ensures.err;
    }
