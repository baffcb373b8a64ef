-- What tests say of variables.
use Rattle.std.specs.Prelude.{◌≡◌, ℕ, List, ℤ, true, Ok}
use Rattle.ctd_program.specs.declared.tree.Compare.{Compare}
use Rattle.ctd_store.specs.declared.value.Value.{Value}
use Rattle.ctd_store.specs.declared.value.Value.TheVariants as values
use Rattle.ctd_store.specs.Store.{Bindings, values_of}
use Rattle.ctd_range.specs.calls.Ranges.{Relates}
use Rattle.ctd_value.specs.Truth.{have_same_shape, value_in_array}
use Rattle.ctd_states.specs.calls.States.{name_at}
use Rattle.ctd_elements.specs.declared.fact.Fact.{Fact}
use Rattle.ctd_elements.specs.declared.fact.AbstractState.{AbstractState}
use Rattle.ctd_elements.specs.declared.limits.Limits.{Limits}
use Rattle.ctd_elements.specs.calls.Blocks.{AllStand}
use Rattle.ctd_elements.specs.calls.States.{Describes}
use Rattle.ctd_elements.specs.calls.Limits.{IsLimited}

-- what is so where two numbers compare so
abbrev pub Compares : AbstractState → Compare → Limits → Limits → List Fact → Type 0
Compares s by a b after = (n : ℕ) (h : Bindings) (x y : ℤ) → Describes s n h → IsLimited s.names.now h a (values.Int x) → IsLimited s.names.now h b (values.Int y) → Relates by x y → AllStand s.names.now h after

-- two arrays have values at the same indices
abbrev pub HaveOneShape : AbstractState → ℕ → ℕ → Type 0
HaveOneShape s i j = (n : ℕ) (h : Bindings) → Describes s n h → have_same_shape (values_of h (name_at s.names.now i)) (values_of h (name_at s.names.now j)) ≡ true

-- what is so where a value is one of an array
abbrev pub IsHit : AbstractState → Limits → ℕ → List Fact → Type 0
IsHit s limits array after = (n : ℕ) (h : Bindings) (v : Value) → Describes s n h → IsLimited s.names.now h limits v → value_in_array (Ok v) (values_of h (name_at s.names.now array)) ≡ Ok true → AllStand s.names.now h after
