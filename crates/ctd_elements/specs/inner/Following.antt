-- Which facts follow from others.
use Rattle.std.specs.Prelude.{◌≡◌, ℕ, List, ◌∷◌, Some, ℤ}
use Rattle.std.specs.Borrow.{Bor}
use Rattle.ctd_store.specs.declared.value.Value.{Value}
use Rattle.ctd_store.specs.Store.{Bindings, value_at}
use Rattle.ctd_states.specs.calls.States.{at_key, name_at}
use Rattle.ctd_elements.specs.declared.fact.Bound.{Bound}
use Rattle.ctd_elements.specs.declared.fact.Filling.{Filling}
use Rattle.ctd_elements.specs.declared.fact.Fact.{Fact}
use Rattle.ctd_elements.specs.declared.fact.Fact.TheVariants as facts
use Rattle.ctd_elements.specs.declared.fact.AbstractState.{AbstractState}
use Rattle.ctd_elements.specs.calls.Bounds.{IsBound}
use Rattle.ctd_elements.specs.calls.Blocks.{IsUpTo, Stands}
use Rattle.ctd_elements.specs.calls.States.{Describes}

-- by a state, and by one fact more
abbrev pub ImpliesBy : AbstractState → Fact → Fact → Type 0
ImpliesBy s f other = (n : ℕ) (h : Bindings) → Describes s n h → Stands s.names.now h other → Stands s.names.now h f

-- where a bound has a number, two fillings make up one
abbrev pub Halves : Filling → Bound → Filling × Filling → Type 0
Halves f at halves = (names : List (Bor (List ℕ))) (h : Bindings) (y : ℤ) → IsBound names h at y → Stands names h (facts.Filled halves.0) → Stands names h (facts.Filled halves.1) → Stands names h (facts.Filled f)

-- an array has no elements
abbrev pub HasNoElement : AbstractState → ℕ → Type 0
HasNoElement s array = (n : ℕ) (h : Bindings) (i v : Value) (is : List Value) → Describes s n h → value_at h (at_key (name_at s.names.now array) (i ∷ is)) ≡ Some v → ⊥

-- each element is a number of at most a bound
abbrev pub IsSmallAnyway : AbstractState → ℕ → Bound → Type 0
IsSmallAnyway s array most = (n : ℕ) (h : Bindings) (i v : Value) (is : List Value) → Describes s n h → value_at h (at_key (name_at s.names.now array) (i ∷ is)) ≡ Some v → IsUpTo s.names.now h (Some most) v
