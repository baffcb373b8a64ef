-- How bounds compare.
use Rattle.std.specs.Prelude.{◌≡◌, ℕ, Option, Some, ℤ, ◌≤ℤ◌, ◌<ℤ◌}
use Rattle.ctd_store.specs.declared.value.Value.{Value}
use Rattle.ctd_store.specs.declared.value.Value.TheVariants as values
use Rattle.ctd_store.specs.Store.{Bindings}
use Rattle.ctd_states.specs.declared.value.AbstractValue.{AbstractValue}
use Rattle.ctd_states.specs.calls.States.{MayHave}
use Rattle.ctd_elements.specs.declared.fact.Bound.{Bound}
use Rattle.ctd_elements.specs.declared.fact.Fact.{Fact}
use Rattle.ctd_elements.specs.declared.fact.AbstractState.{AbstractState}
use Rattle.ctd_elements.specs.calls.Bounds.{IsBound, IsOrdered}
use Rattle.ctd_elements.specs.calls.Blocks.{Stands}
use Rattle.ctd_elements.specs.calls.States.{Describes}

-- the number of a name is at most so large, or at least
abbrev pub IsGreatestOf : AbstractValue → ℤ → Type 0
IsGreatestOf value g = (n : ℕ) (x : ℤ) → MayHave value n (Some (values.Int x)) → x ≤ℤ g

-- each number that a value may be is at least so large
abbrev pub IsLeastOf : AbstractValue → ℤ → Type 0
IsLeastOf value g = (n : ℕ) (x : ℤ) → MayHave value n (Some (values.Int x)) → g ≤ℤ x

-- a name surely has a number, or surely has none
abbrev pub IsSureOf : AbstractValue → Type 0
IsSureOf value = (n : ℕ) (v : Option Value) → MayHave value n v → (x : ℤ) × (v ≡ Some (values.Int x))

-- a value is no number
abbrev pub IsNoNumber : AbstractValue → Type 0
IsNoNumber value = (n : ℕ) (x : ℤ) → MayHave value n (Some (values.Int x)) → ⊥

-- a bound has no number
abbrev pub LacksNumber : AbstractState → Bound → Type 0
LacksNumber s b = (n : ℕ) (h : Bindings) (x : ℤ) → Describes s n h → IsBound s.names.now h b x → ⊥

-- by a state, one number is less than another, wherever both bounds have numbers
abbrev pub IsLower : AbstractState → Bound → Bound → Type 0
IsLower s a b = (n : ℕ) (h : Bindings) (x y : ℤ) → Describes s n h → IsBound s.names.now h a x → IsBound s.names.now h b y → x <ℤ y

-- by one fact more
abbrev pub OrdersBy : AbstractState → Fact → Bound → Bound → Type 0
OrdersBy s fact a b = (n : ℕ) (h : Bindings) → Describes s n h → Stands s.names.now h fact → IsOrdered s.names.now h a b
