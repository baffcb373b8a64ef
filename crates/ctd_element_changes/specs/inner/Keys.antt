-- Keys of arrays.
use Rattle.std.specs.Prelude.{◌≡◌, ℕ, List, [], ◌∷◌, Some, true, Ok}
use Rattle.ctd_store.specs.declared.value.Value.{Value}
use Rattle.ctd_store.specs.Store.{Bindings, value_at, values_of}
use Rattle.ctd_value.specs.Truth.{value_in_array}
use Rattle.ctd_states.specs.calls.States.{at_key, name_at}
use Rattle.ctd_elements.specs.declared.fact.Fact.{Fact}
use Rattle.ctd_elements.specs.declared.fact.Side.{Side}
use Rattle.ctd_elements.specs.declared.fact.AbstractState.{AbstractState}
use Rattle.ctd_elements.specs.declared.limits.Limits.{Limits}
use Rattle.ctd_elements.specs.calls.Blocks.{Has, IsOn, Stands}
use Rattle.ctd_elements.specs.calls.States.{Describes}
use Rattle.ctd_elements.specs.calls.Limits.{IsLimited}

-- a name has no value without indices
abbrev pub LacksAlone : AbstractState → ℕ → Type 0
LacksAlone s i = (n : ℕ) (h : Bindings) (v : Value) → Describes s n h → value_at h (at_key (name_at s.names.now i) []) ≡ Some v → ⊥

-- where one array has a value, another has one
abbrev pub AreKeysWithin : AbstractState → ℕ → ℕ → Type 0
AreKeysWithin s i j = (n : ℕ) (h : Bindings) (is : List Value) (v : Value) → Describes s n h → value_at h (at_key (name_at s.names.now i) is) ≡ Some v → Has s.names.now h j is

-- each value of one array is an index at which another has a value
abbrev pub AreValuesKeys : AbstractState → ℕ → ℕ → Type 0
AreValuesKeys s i j = (n : ℕ) (h : Bindings) (is : List Value) (v : Value) → Describes s n h → value_at h (at_key (name_at s.names.now i) is) ≡ Some v → Has s.names.now h j (v ∷ [])

-- what is on a side is one value
abbrev pub IsExactlySide : AbstractState → Side → Limits → Type 0
IsExactlySide s side limits = (n : ℕ) (h : Bindings) (v k : Value) → Describes s n h → IsLimited s.names.now h limits v → IsOn s.names.now h side k → k ≡ v

-- a fact is so where a value is one of an array
abbrev pub IsHitBy : AbstractState → Limits → ℕ → Fact → Type 0
IsHitBy s limits array f = (n : ℕ) (h : Bindings) (v : Value) → Describes s n h → IsLimited s.names.now h limits v → value_in_array (Ok v) (values_of h (name_at s.names.now array)) ≡ Ok true → Stands s.names.now h f
