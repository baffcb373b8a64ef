-- What the proofs take from elsewhere.
pub use Rattle.ctd_range.specs.calls.Ranges.{IsIn}
pub use Rattle.ctd_range.specs.declared.range.Range.{Range}
pub use Rattle.ctd_states.specs.calls.Changed.{AssignsAlone, AssignsElements, Clears, PaysStep, with_value}
pub use Rattle.ctd_states.specs.calls.States.{EachStands, MayBe, MayHave, NameStands, NamedValue, Tells, at_key, entries_in, name_at, named_values, pins_alone, pins_in, IsImpossible, StateIsWithin}
pub use Rattle.ctd_states.specs.declared.assign.Context.{Context}
pub use Rattle.ctd_states.specs.declared.value.AbstractValue.{AbstractValue}
pub use Rattle.ctd_states.specs.declared.value.Lengths.{Lengths}
pub use Rattle.ctd_states.specs.declared.value.PossibleValues.{PossibleValues}
pub use Rattle.ctd_states.specs.inner.Changed.{AreWithin, NameIsWithin, NamePays, ValuesPay}
pub use Rattle.ctd_store.proofs.StoreLaws.{assigned_key_has_its_value, assignment_keeps_other_keys, pinned_key_stays, unset_keeps_other_names, unset_key_has_its_pin}
pub use Rattle.ctd_store.specs.Order.{same_values}
pub use Rattle.ctd_store.specs.Store.{Bindings, Key, Variables, assign, is_pinned, unset, value_at, value_under}
pub use Rattle.ctd_store.specs.declared.value.Value.{Value}
pub use Rattle.ctd_store.specs.inner.OrderLaws.{exact_lists, values_equiv}
pub use Rattle.std.proofs.Common.{Bool, Decides, List, None, Option, Some, [], ap, arith, bytes_eq, drop, false, get_or, if◌then◌else◌, inl, inr, is_some, le_trans, length, map, not, refl, remove, set, subst, suc, sym, true, zero, ℕ, ℤ, ◌++◌, ◌+◌, ◌<◌, ◌^◌, ◌∙◌, ◌∷◌, ◌≡◌, ◌≢◌, ◌≤◌, ◌⊎◌}
pub use Rattle.std.proofs.lemmas.List.{at_drop_more, drop_all, length-append, length-map, map-append}
pub use Rattle.std.proofs.lemmas.Map.Views.{tells_apart}
pub use Rattle.std.proofs.lemmas.Slice.Eq.{bytes_eq-Decides}
pub use Rattle.std.specs.Borrow.{Bor}
pub use Rattle.std.specs.Global.{Vec}
