-- Abstract states: what they say of the variables where a command begins.
use Rattle.std.specs.Prelude.{◌≡◌, ◌≤◌, ◌<◌, ◌^◌, ℕ, zero, suc, true, List, [], ◌∷◌, length, Option, Some, None}
use Rattle.ctd_store.specs.declared.value.Value.{Value}
use Rattle.ctd_store.specs.declared.value.Value.TheVariants as values
use Rattle.ctd_store.specs.Store.{Key, Bindings, Variables, value_at}
use Rattle.ctd_range.specs.declared.range.Range.{Range}
use Rattle.ctd_range.specs.calls.Ranges.{IsIn}
use Rattle.ctd_states.specs.declared.value.Lengths.{Lengths}
use Rattle.ctd_states.specs.declared.value.PossibleValues.{PossibleValues}
use Rattle.ctd_states.specs.declared.value.AbstractValue.{AbstractValue}
use Rattle.ctd_states.specs.declared.assign.Context.{Context}
use Rattle.std.specs.Borrow.{Bor}

-- a name, with its abstract value
pub record NamedValue : Type 0 where
  pub name : List ℕ
  pub value : AbstractValue

-- A state with its names: at each index a name and its abstract value. Behind the last name there is the empty one, which no variable has.
abbrev pub named_values : List (Bor (List ℕ)) → List AbstractValue → List NamedValue
named_values names [] = []
named_values [] (x ∷ xs) = record { name = []; value = x } ∷ named_values [] xs
named_values (q ∷ qs) (x ∷ xs) = record { name = q.now; value = x } ∷ named_values qs xs

-- a state with the names of an analysis
abbrev pub entries_in : Context → List AbstractValue → List NamedValue
entries_in g entries = named_values g.names.now entries

-- the state of the pins
abbrev pub pins_in : Context → List NamedValue
pins_in g = entries_in g g.pinned.now

-- a value is among those that may be, where so many steps are left
abbrev pub MayBe : PossibleValues → ℕ → Value → Type 0
MayBe possible n (values.Int x) = (r : Range) × (possible.number ≡ Some r) × IsIn r n x
MayBe possible n (values.Text bytes) = (l : Lengths) × (possible.text ≡ Some l) × (l.least ≤ length bytes) × (length bytes ≤ l.most)

-- a name without indices has one of these values, or may have none
abbrev pub MayHave : AbstractValue → ℕ → Option Value → Type 0
MayHave value n None = value.may_lack ≡ true
MayHave value n (Some v) = MayBe value.alone n v

-- the key of a name at some indices
abbrev pub at_key : List ℕ → List Value → Key
at_key name indices = record { name = name; indices = indices }

-- the abstract value of a name describes some variables, where so many steps are left
pub record NameStands (name : List ℕ) (value : AbstractValue) (n : ℕ) (h : Bindings) : Type 0 where
  pub alone : MayHave value n (value_at h (at_key name []))
  pub elements : (i : Value) (is : List Value) (v : Value) → value_at h (at_key name (i ∷ is)) ≡ Some v → MayBe value.elements n v

-- a state describes some variables, where no more steps are left than a run may have
abbrev pub EachStands : List NamedValue → ℕ → Bindings → Type 0
EachStands [] n h = n < 2 ^ 64
EachStands (x ∷ xs) n h = NameStands x.name x.value n h × EachStands xs n h

-- the pins alone
abbrev pub pins_alone : Variables → Bindings
pins_alone pins = record { pins = []; assigned = pins }

-- a state describes the pins, however many steps are left of those that a run may have
abbrev pub PinsStand : List NamedValue → Variables → Type 0
PinsStand entries pins = (n : ℕ) → n < 2 ^ 64 → EachStands entries n (pins_alone pins)

-- the name at an index: behind the last there is the empty one, which no variable has
abbrev pub name_at : List (Bor (List ℕ)) → ℕ → List ℕ
name_at [] i = []
name_at (q ∷ qs) zero = q.now
name_at (q ∷ qs) (suc i) = name_at qs i

-- the abstract value of one name, by a state
abbrev pub Tells : List NamedValue → List ℕ → AbstractValue → Type 0
Tells entries name value = (n : ℕ) (h : Bindings) → EachStands entries n h → NameStands name value n h

-- where all of one list is so, all of the other is
abbrev pub StateIsWithin : List NamedValue → List NamedValue → Type 0
StateIsWithin entries others = (n : ℕ) (h : Bindings) → EachStands entries n h → EachStands others n h

-- no variables are so
abbrev pub IsImpossible : List NamedValue → Type 0
IsImpossible entries = (n : ℕ) (h : Bindings) → EachStands entries n h → ⊥
