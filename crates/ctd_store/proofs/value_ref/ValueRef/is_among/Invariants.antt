use Rattle.std.proofs.Common.{◌≡◌, false, take}
use Rattle.std.specs.List.{list_any}
use Rattle.ctd_store.specs.calls.ValueRef.{value_of_ref}
use Rattle.ctd_store.specs.Order.{same_value}
use Rattle.ctd_store.proofs.value_ref.ValueRef.is_among.Given as goal

abbrev pub invariant-loop-value : goal.invariant-loop-value
invariant-loop-value l = list_any (same_value (value_of_ref l.self)) (take l.value-index l.values) ≡ false
