-- What is so once an element got a value.
use Rattle.std.specs.Prelude.{◌≡◌, ◌≢◌, ◌⊎◌, ℕ, true, List, ◌∷◌, Option, Some, None}
use Rattle.ctd_store.specs.declared.value.Value.{Value}
use Rattle.ctd_store.specs.Store.{Bindings, assign}
use Rattle.ctd_states.specs.calls.States.{at_key, name_at}
use Rattle.ctd_elements.specs.declared.fact.Bound.{Bound}
use Rattle.ctd_elements.specs.declared.fact.Block.{Block}
use Rattle.ctd_elements.specs.declared.fact.Filling.{Filling}
use Rattle.ctd_elements.specs.declared.fact.Fact.{Fact}
use Rattle.ctd_elements.specs.declared.fact.Fact.TheVariants as facts
use Rattle.ctd_elements.specs.declared.fact.Keys.{Keys}
use Rattle.ctd_elements.specs.declared.fact.Index.{Index}
use Rattle.ctd_elements.specs.declared.fact.Side.{Side}
use Rattle.ctd_elements.specs.declared.fact.AbstractState.{AbstractState}
use Rattle.ctd_elements.specs.declared.fact.Cell.{Cell}
use Rattle.ctd_elements.specs.declared.fact.Source.{Source}
use Rattle.ctd_element_changes.specs.declared.element.Target.{Target}
use Rattle.ctd_elements.specs.declared.limits.Limits.{Limits}
use Rattle.ctd_elements.specs.calls.Bounds.{IsAt}
use Rattle.ctd_elements.specs.calls.Blocks.{AreExcepted, AreIn, Has, HasValue, IsOn, Stands, block_at}
use Rattle.ctd_elements.specs.calls.States.{Describes, Implies}
use Rattle.ctd_element_changes.specs.calls.Changes.{GetsElement}
use Rattle.ctd_elements.specs.calls.Limits.{IsLimitedTo}

-- what is on a side is one index, or on another side
abbrev pub LeavesRest : AbstractState → Side → Index → Side → Type 0
LeavesRest s side at rest = (n : ℕ) (h : Bindings) (i k : Value) → Describes s n h → IsAt s.names.now h at i → IsOn s.names.now h side k → (k ≡ i) ⊎ IsOn s.names.now h rest k

-- elements have values, but for those with one first index
abbrev pub StandsButFirst : AbstractState → Filling → Index → Type 0
StandsButFirst s f at = (n : ℕ) (h : Bindings) (i k : Value) (ks : List Value) → Describes s n h → IsAt s.names.now h at i → AreIn s.names.now h f.block (k ∷ ks) → (k ≡ i) ⊎ HasValue s.names.now h f.array (k ∷ ks) f.most

-- the same of a second index
abbrev pub StandsButSecond : AbstractState → Filling → Index → Type 0
StandsButSecond s f at = (n : ℕ) (h : Bindings) (i k l : Value) (ks : List Value) → Describes s n h → IsAt s.names.now h at i → AreIn s.names.now h f.block (k ∷ l ∷ ks) → (l ≡ i) ⊎ HasValue s.names.now h f.array (k ∷ l ∷ ks) f.most

-- elements have values, but for one
abbrev pub StandsButOne : AbstractState → Filling → Option Cell → Type 0
StandsButOne s f None = (n : ℕ) (h : Bindings) (ks : List Value) → Describes s n h → AreIn s.names.now h f.block ks → HasValue s.names.now h f.array ks f.most
StandsButOne s f (Some p) = (n : ℕ) (h : Bindings) (is ks : List Value) → Describes s n h → AreIn s.names.now h (block_at p) is → AreIn s.names.now h f.block ks → (ks ≡ is) ⊎ HasValue s.names.now h f.array ks f.most

-- there is no bound, or nothing is pinned and the value is at most the bound
abbrev pub IsSmall : AbstractState → Target → Limits → Option Bound → Type 0
IsSmall s target limits None = Unit {0}
IsSmall s target limits (Some most) = (target.is_free ≡ true) × IsLimitedTo s limits most

-- an array has a value at a cell
abbrev pub HasCell : AbstractState → ℕ → Option Cell → Type 0
HasCell s array None = ⊥
HasCell s array (Some p) = (n : ℕ) (h : Bindings) (is : List Value) → Describes s n h → AreIn s.names.now h (block_at p) is → Has s.names.now h array is

-- a cell is in a block
abbrev pub IsCellIn : AbstractState → Option Cell → Option Block → Type 0
IsCellIn s None block = ⊥
IsCellIn s (Some p) block = (n : ℕ) (h : Bindings) (is : List Value) → Describes s n h → AreIn s.names.now h (block_at p) is → AreExcepted s.names.now h block is

-- keys lie within others, but for the one at a cell
abbrev pub IsMissing : AbstractState → Keys → Option Cell → Type 0
IsMissing s k None = ⊥
IsMissing s k (Some p) = Implies s (facts.KeysWithin (record { array = k.array; other = k.other; except = Some (block_at p) }))

-- keys lie within those of an array that gets an element, but for the one at its cell
abbrev pub KeysComplete : AbstractState → Keys → Target → Type 0
KeysComplete s k target = (name_at s.names.now k.other ≡ name_at s.names.now target.array) × IsMissing s k target.cell

-- the elements of an array are keys of another, but for one
abbrev pub IsMissingAt : AbstractState → Keys → Option Cell → Type 0
IsMissingAt s k None = ⊥
IsMissingAt s k (Some c) = Implies s (facts.ValuesAreKeys (record { array = k.array; other = k.other; except = Some (block_at c) }))

-- the same but for the element from which a value was taken
pub record IsMissingKey (s : AbstractState) (k : Keys) (source : Source) : Type 0 where
  pub array : name_at s.names.now k.array ≡ name_at s.names.now source.array
  pub missing : IsMissingAt s k source.cell

-- and that one is the index at which the other gets a value
pub record ValuesComplete (s : AbstractState) (k : Keys) (target : Target) : Type 0 where
  pub apart : name_at s.names.now k.array ≢ name_at s.names.now target.array
  pub other : name_at s.names.now k.other ≡ name_at s.names.now target.array
  pub source : Source
  pub is : target.source ≡ Some source
  pub key : IsMissingKey s k source

-- a fact is so once an element got a value
abbrev pub StandsWith : AbstractState → Target → Limits → Fact → Type 0
StandsWith s target limits f = (n : ℕ) (h : Bindings) (is : List Value) (v : Value) → Describes s n h → GetsElement s.names.now h target limits is v → Stands s.names.now (assign h (at_key (name_at s.names.now target.array) is) v) f
