-- What is so of variables once one of them got a value.
use Rattle.std.specs.Prelude.{◌≡◌, ◌≢◌, ℕ, Bool, true, false, List, [], ◌∷◌, Option, Some, None, ℤ, ◌+ℤ◌, ◌*ℤ◌, pos}
use Rattle.std.specs.Borrow.{Bor}
use Rattle.ctd_store.specs.declared.value.Value.{Value}
use Rattle.ctd_store.specs.Store.{Bindings, Key, assign, is_pinned, value_at}
use Rattle.ctd_states.specs.calls.States.{at_key, name_at}
use Rattle.ctd_elements.specs.declared.fact.Fact.{Fact}
use Rattle.ctd_elements.specs.declared.limits.Limits.{Limits}
use Rattle.ctd_elements.specs.declared.fact.Cell.{Cell}
use Rattle.ctd_elements.specs.declared.fact.Source.{Source}
use Rattle.ctd_element_changes.specs.declared.element.Target.{Target}
use Rattle.ctd_elements.specs.declared.fact.AbstractState.{AbstractState}
use Rattle.ctd_elements.specs.calls.Blocks.{AllStand, AreIn, block_at}
use Rattle.ctd_elements.specs.calls.States.{Describes}
use Rattle.ctd_elements.specs.calls.Limits.{IsElementOf, IsLimited}
use Rattle.ctd_elements.specs.declared.fact.Bound.{Bound}
use Rattle.ctd_elements.specs.calls.Bounds.{IsBound}

-- a name without indices, which no preset pins, gets a value of which something is known
pub record Gets (names : List (Bor (List ℕ))) (h : Bindings) (name : List ℕ) (limits : Limits) (v : Value) : Type 0 where
  pub free : is_pinned h (at_key name []) ≡ false
  pub is : IsLimited names h limits v

-- what is so once a name without indices got such a value
abbrev pub GivesName : AbstractState → List ℕ → Limits → List Fact → Type 0
GivesName s name limits after = (n : ℕ) (h : Bindings) (v : Value) → Describes s n h → Gets s.names.now h name limits v → AllStand s.names.now (assign h (at_key name []) v) after

-- a key is not pinned, if it is known that none of its array is
abbrev pub IsUnpinned : Bindings → Key → Bool → Type 0
IsUnpinned h key is_free = is_free ≡ true → is_pinned h key ≡ false

-- indices are those of a cell, if there is one; else there is at least one
abbrev pub AreAt : List (Bor (List ℕ)) → Bindings → Option Cell → List Value → Type 0
AreAt names h cell [] = ⊥
AreAt names h None (i ∷ is) = Unit {0}
AreAt names h (Some p) (i ∷ is) = AreIn names h (block_at p) (i ∷ is)

-- there is one index, and an element has it as a value, if there is such
abbrev pub IsIndexFrom : List (Bor (List ℕ)) → Bindings → Option Source → List Value → Type 0
IsIndexFrom names h None is = Unit {0}
IsIndexFrom names h (Some s) [] = ⊥
IsIndexFrom names h (Some s) (i ∷ []) = IsElementOf names h (Some s) i
IsIndexFrom names h (Some s) (i ∷ j ∷ is) = ⊥

-- an element gets a value of which something is known; no pin of it is in the way if the array is free of pins
pub record GetsElement (names : List (Bor (List ℕ))) (h : Bindings) (target : Target) (limits : Limits) (is : List Value) (v : Value) : Type 0 where
  pub at : AreAt names h target.cell is
  pub from : IsIndexFrom names h target.source is
  pub unpinned : IsUnpinned h (at_key (name_at names target.array) is) target.is_free
  pub limited : IsLimited names h limits v

-- what is so once an element got such a value
abbrev pub GivesElement : AbstractState → Target → Limits → List Fact → Type 0
GivesElement s target limits after = (n : ℕ) (h : Bindings) (is : List Value) (v : Value) → Describes s n h → GetsElement s.names.now h target limits is v → AllStand s.names.now (assign h (at_key (name_at s.names.now target.array) is) v) after

-- variables that differ at most in what one name has
abbrev pub AgreeBeside : List ℕ → Bindings → Bindings → Type 0
AgreeBeside name h after = (key : Key) → key.name ≢ name → value_at after key ≡ value_at h key

-- what is still so whatever became of a name
abbrev pub KeepsBeside : List (Bor (List ℕ)) → List Fact → List ℕ → List Fact → Type 0
KeepsBeside names fs name kept = (h after : Bindings) → AgreeBeside name h after → AllStand names h fs → AllStand names after kept

-- a bound is a multiple of another, with a number added
abbrev pub IsMultiple : ℕ → Bound → ℤ → Bound → Type 0
IsMultiple times b add c = (names : List (Bor (List ℕ))) (h : Bindings) (x : ℤ) → IsBound names h b x → IsBound names h c ((pos times *ℤ x) +ℤ add)
