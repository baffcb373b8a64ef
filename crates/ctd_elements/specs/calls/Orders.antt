-- How bounds and blocks compare by a state.
use Rattle.std.specs.Prelude.{◌≡◌, ℕ, ℤ, ◌+ℤ◌, ◌-ℤ◌, ◌≤ℤ◌, List, Option, pos}
use Rattle.ctd_store.specs.Store.{Bindings}
use Rattle.ctd_elements.specs.declared.fact.Bound.{Bound}
use Rattle.ctd_elements.specs.declared.fact.AbstractState.{AbstractState}
use Rattle.ctd_elements.specs.calls.Bounds.{IsBound, IsAt}
use Rattle.ctd_elements.specs.calls.States.{Describes}
use Rattle.ctd_store.specs.declared.value.Value.{Value}
use Rattle.ctd_elements.specs.declared.fact.Block.{Block}
use Rattle.ctd_elements.specs.declared.fact.Index.{Index}
use Rattle.ctd_elements.specs.declared.fact.Index.TheVariants as indices
use Rattle.ctd_elements.specs.declared.fact.Side.{Side}
use Rattle.ctd_elements.specs.calls.Blocks.{AreExcepted, IsOn}
use Rattle.ctd_store.specs.declared.value.Value.TheVariants as values
use Rattle.ctd_states.specs.declared.value.AbstractValue.{AbstractValue}
use Rattle.ctd_states.specs.calls.States.{MayBe}

-- the number of a bound is at most so large, or at least
abbrev pub IsGreatest : AbstractState → Bound → ℤ → Type 0
IsGreatest s b g = (n : ℕ) (h : Bindings) (x : ℤ) → Describes s n h → IsBound s.names.now h b x → x ≤ℤ g

-- the number of a bound is at least so large
abbrev pub IsLeast : AbstractState → Bound → ℤ → Type 0
IsLeast s b g = (n : ℕ) (h : Bindings) (x : ℤ) → Describes s n h → IsBound s.names.now h b x → g ≤ℤ x

-- a bound, moved by as much as another lies above one of its term
abbrev pub IsMoved : Bound → Bound → Bound → Bound → Type 0
IsMoved a from to c = (a.term ≡ from.term) × (c.term ≡ to.term) × (c.add ≡ (a.add -ℤ from.add) +ℤ to.add)

-- a bound surely has a number, or surely has none
abbrev pub IsSure : AbstractState → Bound → Type 0
IsSure s b = (n : ℕ) (h : Bindings) → Describes s n h → (x : ℤ) × IsBound s.names.now h b x

-- the bound that is one more
abbrev pub IsNext : Bound → Bound → Type 0
IsNext b c = (c.term ≡ b.term) × (c.add ≡ b.add +ℤ pos 1)

-- where a has a number, b has one that is at most it, or at least
abbrev pub IsBefore : AbstractState → Bound → Bound → Type 0
IsBefore s b a = (n : ℕ) (h : Bindings) (x : ℤ) → Describes s n h → IsBound s.names.now h a x → (y : ℤ) × IsBound s.names.now h b y × (y ≤ℤ x)

-- where one bound has a number, another has one that is at least this
abbrev pub IsBehind : AbstractState → Bound → Bound → Type 0
IsBehind s b a = (n : ℕ) (h : Bindings) (x : ℤ) → Describes s n h → IsBound s.names.now h a x → (y : ℤ) × IsBound s.names.now h b y × (x ≤ℤ y)

-- a value that is that of an index is the number of a bound
abbrev pub IsNumberOf : AbstractState → Index → Bound → Type 0
IsNumberOf s index b = (n : ℕ) (h : Bindings) (v : Value) → Describes s n h → IsAt s.names.now h index v → IsAt s.names.now h (indices.Number b) v

-- what is on one side is on another
abbrev pub IsPart : AbstractState → Side → Side → Type 0
IsPart s a b = (n : ℕ) (h : Bindings) (v : Value) → Describes s n h → IsOn s.names.now h a v → IsOn s.names.now h b v

-- what is in one exception is in another
abbrev pub IsExceptedBy : AbstractState → Option Block → Option Block → Type 0
IsExceptedBy s a b = (n : ℕ) (h : Bindings) (is : List Value) → Describes s n h → AreExcepted s.names.now h a is → AreExcepted s.names.now h b is

-- an element is a number of at most so large
abbrev pub IsGreatestElement : AbstractValue → ℤ → Type 0
IsGreatestElement value g = (n : ℕ) (v : Value) → MayBe value.elements n v → (x : ℤ) × (v ≡ values.Int x) × (x ≤ℤ g)
