-- What is known of values.
use Rattle.std.specs.Prelude.{◌≡◌, ℕ, suc, List, [], Option, Some, ℤ, pos, ◌≤ℤ◌}
use Rattle.std.specs.Borrow.{Bor}
use Rattle.ctd_range.specs.calls.Ranges.{IsIn}
use Rattle.ctd_range.specs.declared.range.Range.{Range}
use Rattle.ctd_store.specs.declared.value.Value.{Value}
use Rattle.ctd_store.specs.declared.value.Value.TheVariants as values
use Rattle.ctd_store.specs.Store.{Bindings, value_at}
use Rattle.ctd_states.specs.calls.States.{at_key}
use Rattle.ctd_elements.specs.declared.fact.AbstractState.{AbstractState}
use Rattle.ctd_elements.specs.declared.fact.Cell.{Cell}
use Rattle.ctd_elements.specs.declared.limits.Limits.{Limits}
use Rattle.ctd_elements.specs.calls.Bounds.{alone}
use Rattle.ctd_elements.specs.calls.States.{Describes}
use Rattle.ctd_elements.specs.calls.Limits.{IsAtLeastAll, IsAtMostAll, IsCell, IsElementOf, IsExactly, IsLimited}
use Rattle.ctd_elements.specs.calls.Reading.{AreLimited}
use Rattle.ctd_limits.specs.declared.known.ValueLimits.{ValueLimits}

-- what is known of a value
pub record IsKnown (names : List (Bor (List ℕ))) (h : Bindings) (l : ValueLimits) (v : Value) : Type 0 where
  pub exact : IsExactly names h l.exact v
  pub lows : IsAtLeastAll names h l.lows.items v
  pub highs : IsAtMostAll names h l.highs.items v
  pub source : IsElementOf names h l.source v

-- the same of a value is known by what is looked at
abbrev pub IsViewOf : ValueLimits → Limits → Type 0
IsViewOf l view = (names : List (Bor (List ℕ))) (h : Bindings) (v : Value) → IsKnown names h l v → IsLimited names h view v

-- nothing is said
abbrev pub IsNothing : ValueLimits → Type 0
IsNothing l = (names : List (Bor (List ℕ))) (h : Bindings) (v : Value) → IsKnown names h l v

-- of a number, and of a string
abbrev pub KnowsNumber : ℤ → ValueLimits → Type 0
KnowsNumber z l = (names : List (Bor (List ℕ))) (h : Bindings) → IsKnown names h l (values.Int z)

-- of a string
abbrev pub KnowsText : AbstractState → List ℕ → ValueLimits → Type 0
KnowsText s bytes l = (h : Bindings) → IsKnown s.names.now h l (values.Text bytes)

-- by a state, of the value of a name without indices, and of the value at indices of which something is known
abbrev pub KnowsName : AbstractState → List ℕ → ValueLimits → Type 0
KnowsName s name l = (n : ℕ) (h : Bindings) (v : Value) → Describes s n h → value_at h (at_key name []) ≡ Some v → IsKnown s.names.now h l v

-- by a state, of the value at indices of which something is known
abbrev pub KnowsAt : AbstractState → List ℕ → Limits → Option Limits → ValueLimits → Type 0
KnowsAt s name first second l = (n : ℕ) (h : Bindings) (is : List Value) (v : Value) → Describes s n h → AreLimited s.names.now h first second is → value_at h (at_key name is) ≡ Some v → IsKnown s.names.now h l v

-- of the result of an operator
abbrev pub KnowsBy : (ℤ → ℤ → ℤ) → ValueLimits → ValueLimits → ValueLimits → Type 0
KnowsBy f a b l = (names : List (Bor (List ℕ))) (h : Bindings) (x y : ℤ) → IsKnown names h a (values.Int x) → IsKnown names h b (values.Int y) → IsKnown names h l (values.Int (f x y))

-- of a number from one value to another
abbrev pub LiesBetween : ValueLimits → ValueLimits → ValueLimits → Type 0
LiesBetween low high l = (names : List (Bor (List ℕ))) (h : Bindings) (x y z : ℤ) → IsKnown names h low (values.Int x) → IsKnown names h high (values.Int y) → x ≤ℤ z → z ≤ℤ y → IsKnown names h l (values.Int z)

-- of the counter of a loop in a later turn
abbrev pub CountsOn : AbstractState → ℕ → ValueLimits → Type 0
CountsOn s counter l = (n k : ℕ) (h : Bindings) → Describes s n h → alone s.names.now h counter ≡ Some (values.Int (pos k)) → IsKnown s.names.now h l (values.Int (pos (suc k)))

-- of a number of a range; and which of these it may be
abbrev pub KnowsRange : ValueLimits → Range → ValueLimits → Type 0
KnowsRange limits range l = (names : List (Bor (List ℕ))) (h : Bindings) (n : ℕ) (x : ℤ) → IsKnown names h limits (values.Int x) → IsIn range n x → IsKnown names h l (values.Int x)

-- of which numbers of a range it may be
abbrev pub NarrowsTo : Range → ValueLimits → Range → Type 0
NarrowsTo range limits narrow = (names : List (Bor (List ℕ))) (h : Bindings) (n : ℕ) (x : ℤ) → IsKnown names h limits (values.Int x) → IsIn range n x → IsIn narrow n x

-- indices of which something is known are those of a cell, if there is one
abbrev pub IsCellAt : Limits → Option Limits → Option Cell → Type 0
IsCellAt first second cell = (names : List (Bor (List ℕ))) (h : Bindings) (is : List Value) → AreLimited names h first second is → IsCell names h cell is
