-- What the proofs take from elsewhere.
pub use Rattle.ctd_elements.specs.calls.Blocks.{AllStand, AreExcepted, AreIn, AreOn, Has, HasValue, IsOn, IsUpTo, LiesIn, Stands, more_sides, sides_of}
pub use Rattle.ctd_elements.specs.calls.Bounds.{IsAt, IsBound, IsNumber, IsOrdered, alone}
pub use Rattle.ctd_elements.specs.calls.States.{Describes, Implies, Orders, values_of}
pub use Rattle.ctd_elements.specs.declared.fact.AbstractState.{AbstractState}
pub use Rattle.ctd_elements.specs.declared.fact.Block.{Block}
pub use Rattle.ctd_elements.specs.declared.fact.Bound.{Bound}
pub use Rattle.ctd_elements.specs.declared.fact.Fact.{Fact}
pub use Rattle.ctd_elements.specs.declared.fact.Filling.{Filling}
pub use Rattle.ctd_elements.specs.declared.fact.Index.{Index}
pub use Rattle.ctd_elements.specs.declared.fact.Interval.{Interval}
pub use Rattle.ctd_elements.specs.declared.fact.Keys.{Keys}
pub use Rattle.ctd_elements.specs.declared.fact.Side.{Side}
pub use Rattle.ctd_elements.specs.declared.fact.Term.{Term}
pub use Rattle.ctd_range.proofs.Products.{times_up}
pub use Rattle.ctd_states.specs.calls.States.{EachStands, MayBe, MayHave, NameStands, Tells, at_key, name_at, named_values}
pub use Rattle.ctd_states.specs.declared.value.AbstractValue.{AbstractValue}
pub use Rattle.ctd_states.proofs.NamedValues.{entry_value, name_is, no_name_is}
pub use Rattle.ctd_store.specs.Store.{Bindings, Key, assign, is_pinned, value_at, value_under}
pub use Rattle.ctd_store.proofs.StoreLaws.{assigned_key_has_its_value, assignment_keeps_other_keys, pinned_key_stays}
pub use Rattle.ctd_store.specs.declared.value.Value.{Value}
pub use Rattle.std.proofs.Common.{Bool, IfSome, bytes_eq, List, None, Option, Some, [], ap, arith, false, get_or, inl, inr, is_some, length, pos, refl, subst, suc, sym, true, zero, ℕ, ℤ, ◌++◌, ◌+◌, ◌+ℤ◌, ◌-ℤ◌, ◌*ℤ◌, ◌<◌, ◌<ℤ◌, ◌∙◌, ◌∷◌, ◌≡◌, ◌≢◌, ◌≤◌, ◌≤ℤ◌, ◌⊎◌}
pub use Rattle.std.proofs.Math.IntN.{*ℤ_comm}
pub use Rattle.ctd_store.specs.Order.{same_values}
pub use Rattle.ctd_store.specs.inner.OrderLaws.{exact_lists, exact_values, values_equiv}
pub use Rattle.std.proofs.lemmas.Map.Views.{tells_apart}
pub use Rattle.std.proofs.lemmas.Slice.Eq.{bytes_eq-Decides}
pub use Rattle.std.proofs.lemmas.Int.{ints, to_z-of_z}
pub use Rattle.std.specs.Borrow.{Bor}
pub use lib.Signed.{le_z}
pub use Rattle.std.specs.Int.{w128, w64}
pub use Rattle.std.specs.Int.RustNames.{FitsSigned}
pub use Rattle.ctd_elements.proofs.Common.{le_or_lt, nothing_more, same_key}
