-- What is so once a name without indices got a value, by what is known of it.
use Rattle.std.specs.Prelude.{◌≡◌, ℕ, List, [], Option, Some, ℤ, ◌-ℤ◌, false}
use Rattle.std.specs.Borrow.{Bor}
use Rattle.ctd_store.specs.declared.value.Value.{Value}
use Rattle.ctd_store.specs.Store.{Bindings, assign, is_pinned}
use Rattle.ctd_states.specs.calls.States.{at_key, name_at}
use Rattle.ctd_elements.specs.declared.fact.Bound.{Bound}
use Rattle.ctd_elements.specs.declared.fact.Index.{Index}
use Rattle.ctd_elements.specs.declared.fact.Fact.{Fact}
use Rattle.ctd_elements.specs.declared.fact.AbstractState.{AbstractState}
use Rattle.ctd_elements.specs.declared.limits.Limits.{Limits}
use Rattle.ctd_elements.specs.calls.Bounds.{IsBound}
use Rattle.ctd_elements.specs.calls.Blocks.{Stands}
use Rattle.ctd_elements.specs.calls.States.{Describes}
use Rattle.ctd_element_changes.specs.calls.Changes.{Gets}
use Rattle.ctd_elements.specs.calls.Limits.{IsExactly}

-- a name without indices, which no preset pins, gets a value that is that of an index, if there is one
pub record GetsIndex (names : List (Bor (List ℕ))) (h : Bindings) (name : List ℕ) (exact : Option Index) (v : Value) : Type 0 where
  pub free : is_pinned h (at_key name []) ≡ false
  pub is : IsExactly names h exact v

-- what has a number behind the assignment had, by another bound, so much less
abbrev pub WasLess : List (Bor (List ℕ)) → List ℕ → Option Index → Bound → ℤ → Bound → Type 0
WasLess names name exact b by old = (h : Bindings) (v : Value) (z : ℤ) → GetsIndex names h name exact v → IsBound names (assign h (at_key name []) v) b z → IsBound names h old (z -ℤ by)

-- a fact is so once a name got a value
abbrev pub StandsGiven : AbstractState → List ℕ → Limits → Fact → Type 0
StandsGiven s name limits f = (n : ℕ) (h : Bindings) (v : Value) → Describes s n h → Gets s.names.now h name limits v → Stands s.names.now (assign h (at_key name []) v) f

-- a bound is the number of a name, taken once, with one added
abbrev pub IsOnce : List (Bor (List ℕ)) → List ℕ → Bound → Type 0
IsOnce names name b = (i : ℕ) × (b.term ≡ Some (record { name = i; times = 1 })) × (name_at names i ≡ name)
