-- States with facts: what they say of the variables where a command begins, and how they change.
use Rattle.std.specs.Prelude.{◌≡◌, ℕ, suc, Bool, List, [], ◌∷◌}
use Rattle.ctd_store.specs.declared.value.Value.{Value}
use Rattle.ctd_store.specs.Store.{Bindings, Variables, assign, is_pinned, unset}
use Rattle.ctd_states.specs.declared.assign.Context.{Context}
use Rattle.ctd_states.specs.declared.value.PossibleValues.{PossibleValues}
use Rattle.ctd_states.specs.calls.States.{EachStands, MayBe, PinsStand, at_key, entries_in, pins_in}
use Rattle.ctd_elements.specs.declared.fact.AbstractState.{AbstractState}
use Rattle.ctd_elements.specs.declared.limits.Limits.{Limits}
use Rattle.ctd_elements.specs.calls.Blocks.{AllStand}
use Rattle.ctd_elements.specs.calls.Limits.{IsLimited}
use Rattle.ctd_element_changes.specs.calls.Changes.{AreAt, IsIndexFrom}
use Rattle.ctd_partitions.specs.declared.change.Position.{Position}
use Rattle.ctd_partitions.specs.declared.state.State.{State}

-- a state describes some variables, where so many steps are left
pub record StateStands (g : Context) (st : State) (n : ℕ) (h : Bindings) : Type 0 where
  pub values : EachStands (entries_in g st.entries.items) n h
  pub facts : AllStand g.names.now h st.facts.items

-- what is looked at describes the same variables
pub record IsViewOf (g : Context) (st : State) (view : AbstractState) : Type 0 where
  pub names : view.names.now ≡ g.names.now
  pub entries : view.entries.now ≡ st.entries.items
  pub facts : view.facts.now ≡ st.facts.items

-- all that one state describes is described by another
abbrev pub IsStateWithin : Context → State → State → Type 0
IsStateWithin g a b = (n : ℕ) (h : Bindings) → StateStands g a n h → StateStands g b n h

-- whether a preset pins a key
abbrev pub IsPinnedBy : Context → List ℕ → List Value → Bool → Type 0
IsPinnedBy g name is b = (pins : Variables) (h : Bindings) → PinsStand (pins_in g) pins → h.pins ≡ pins → is_pinned h (at_key name is) ≡ b

-- the state once a name without indices got one of some values, of which something is known
abbrev pub AssignsName : Context → State → List ℕ → PossibleValues → Limits → State → Type 0
AssignsName g st name possible limits after = (pins : Variables) (n : ℕ) (h : Bindings) (v : Value) → PinsStand (pins_in g) pins → h.pins ≡ pins → StateStands g st n h → MayBe possible n v → IsLimited g.names.now h limits v → StateStands g after n (assign h (at_key name []) v)

-- indices are those of a position
pub record AreAtPosition (g : Context) (h : Bindings) (at : Position) (is : List Value) : Type 0 where
  pub cell : AreAt g.names.now h at.cell is
  pub source : IsIndexFrom g.names.now h at.source is

-- the state once an element got one of some values, of which something is known
abbrev pub AssignsAt : Context → State → List ℕ → Position → PossibleValues → Limits → State → Type 0
AssignsAt g st name at possible limits after = (pins : Variables) (n : ℕ) (h : Bindings) (i : Value) (is : List Value) (v : Value) → PinsStand (pins_in g) pins → h.pins ≡ pins → StateStands g st n h → AreAtPosition g h at (i ∷ is) → MayBe possible n v → IsLimited g.names.now h limits v → StateStands g after n (assign h (at_key name (i ∷ is)) v)

-- the state once a name lost what was assigned to it
abbrev pub ClearsName : Context → State → List ℕ → State → Type 0
ClearsName g st name after = (pins : Variables) (n : ℕ) (h : Bindings) → PinsStand (pins_in g) pins → h.pins ≡ pins → StateStands g st n h → StateStands g after n (unset h name)

-- the state once a step is paid
abbrev pub PaysOne : Context → State → State → Type 0
PaysOne g st after = (n : ℕ) (h : Bindings) → StateStands g st (suc n) h → StateStands g after n h

-- a state with the same values and facts
abbrev pub IsCopyOf : State → State → Type 0
IsCopyOf st copy = (copy.entries.items ≡ st.entries.items) × (copy.facts.items ≡ st.facts.items)
