-- What is known of elements.
use Rattle.std.specs.Prelude.{◌≡◌, ℕ, List, ◌∷◌, Option, Some, ℤ, ◌≤ℤ◌}
use Rattle.ctd_store.specs.declared.value.Value.{Value}
use Rattle.ctd_store.specs.declared.value.Value.TheVariants as values
use Rattle.ctd_store.specs.Store.{Bindings, value_at}
use Rattle.ctd_states.specs.declared.value.AbstractValue.{AbstractValue}
use Rattle.ctd_states.specs.calls.States.{MayBe, at_key, name_at}
use Rattle.ctd_elements.specs.declared.fact.Bound.{Bound}
use Rattle.ctd_elements.specs.declared.fact.Fact.{Fact}
use Rattle.ctd_elements.specs.declared.fact.AbstractState.{AbstractState}
use Rattle.ctd_elements.specs.declared.limits.Limits.{Limits}
use Rattle.ctd_elements.specs.calls.Blocks.{Stands}
use Rattle.ctd_elements.specs.calls.States.{Describes}
use Rattle.ctd_elements.specs.calls.Limits.{IsAtLeast, IsAtLeastAll, IsAtMost, IsAtMostAll}
use Rattle.ctd_elements.specs.calls.Reading.{AreLimited}
use Rattle.ctd_limits.specs.declared.known.ValueLimits.{ValueLimits}
use Rattle.ctd_limits.specs.calls.Known.{IsKnown}

-- an element is a number of at least so much
abbrev pub IsLeastElement : AbstractValue → ℤ → Type 0
IsLeastElement value g = (n : ℕ) (v : Value) → MayBe value.elements n v → (x : ℤ) × (v ≡ values.Int x) × (g ≤ℤ x)

-- each element of an array is at most a bound, or at least
abbrev pub IsNumberAbove : AbstractState → ℕ → Bound → Type 0
IsNumberAbove s array b = (n : ℕ) (h : Bindings) (i v : Value) (is : List Value) → Describes s n h → value_at h (at_key (name_at s.names.now array) (i ∷ is)) ≡ Some v → IsAtMost s.names.now h b v

-- each element of an array is a number that is at least a bound
abbrev pub IsNumberBelow : AbstractState → ℕ → Bound → Type 0
IsNumberBelow s array b = (n : ℕ) (h : Bindings) (i v : Value) (is : List Value) → Describes s n h → value_at h (at_key (name_at s.names.now array) (i ∷ is)) ≡ Some v → IsAtLeast s.names.now h b v

-- by one fact, the element at some indices is at most a bound
abbrev pub IsMostOf : AbstractState → Fact → ℕ → Limits → Option Limits → Bound → Type 0
IsMostOf s fact array first second m = (n : ℕ) (h : Bindings) (is : List Value) (v : Value) → Describes s n h → Stands s.names.now h fact → AreLimited s.names.now h first second is → value_at h (at_key (name_at s.names.now array) is) ≡ Some v → IsAtMost s.names.now h m v

-- it is at most bounds, or at least
abbrev pub HighsOfElement : AbstractState → ℕ → Limits → Option Limits → List Bound → Type 0
HighsOfElement s array first second all = (n : ℕ) (h : Bindings) (is : List Value) (v : Value) → Describes s n h → AreLimited s.names.now h first second is → value_at h (at_key (name_at s.names.now array) is) ≡ Some v → IsAtMostAll s.names.now h all v

-- bounds that each element of an array is at least
abbrev pub LowsOfElement : AbstractState → ℕ → List Bound → Type 0
LowsOfElement s array all = (n : ℕ) (h : Bindings) (i v : Value) (is : List Value) → Describes s n h → value_at h (at_key (name_at s.names.now array) (i ∷ is)) ≡ Some v → IsAtLeastAll s.names.now h all v

-- what is known of the element at some indices
abbrev pub KnowsElement : AbstractState → ℕ → Limits → Option Limits → ValueLimits → Type 0
KnowsElement s array first second l = (n : ℕ) (h : Bindings) (is : List Value) (v : Value) → Describes s n h → AreLimited s.names.now h first second is → value_at h (at_key (name_at s.names.now array) is) ≡ Some v → IsKnown s.names.now h l v
