use Rattle.std.proofs.Common.{[], ap}
use Rattle.std.specs.Option.{unwrap_or}
use Rattle.ctd_store.specs.calls.Index.{indices_at}
use Rattle.ctd_store.specs.calls.ValueRef.{value_of_ref}
use Rattle.ctd_store.specs.Store.{has_indices}
use Rattle.ctd_store.proofs.Apart.{apart_after}
use Rattle.ctd_store.proofs.slot.Slot.assign.Goals as goal

pub invariant_of-self : goal.invariant_of-self
invariant_of-self c = record {
  apart = apart_after c.insert.result (unwrap_or c.args.self.now.pins []) c.args.self.now.values c.insert.new.self (indices_at c.args.index) (value_of_ref c.args.value)
      (ap (λ o. has_indices (unwrap_or o []) (indices_at c.args.index)) c.in-None.is) c.args.self.now.apart c.insert.ensures.ok c.insert.ensures.err;
}
