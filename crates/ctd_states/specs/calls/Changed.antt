-- The state after a change.
use Rattle.std.specs.Prelude.{◌≡◌, ℕ, suc, List, [], ◌∷◌, bytes_eq, if◌then◌else◌}
use Rattle.ctd_store.specs.declared.value.Value.{Value}
use Rattle.ctd_store.specs.Store.{Bindings, Variables, assign, unset}
use Rattle.ctd_states.specs.declared.value.PossibleValues.{PossibleValues}
use Rattle.ctd_states.specs.declared.value.AbstractValue.{AbstractValue}
use Rattle.ctd_states.specs.calls.States.{NamedValue, EachStands, MayBe, PinsStand, at_key}

-- the state once a name without indices got one of some values
abbrev pub AssignsAlone : (pinned entries : List NamedValue) → List ℕ → PossibleValues → List NamedValue → Type 0
AssignsAlone pinned entries name possible after = (pins : Variables) (n : ℕ) (h : Bindings) (v : Value) → PinsStand pinned pins → h.pins ≡ pins → EachStands entries n h → MayBe possible n v → EachStands after n (assign h (at_key name []) v)

-- the state once an element of a name got one of some values
abbrev pub AssignsElements : List NamedValue → List ℕ → PossibleValues → List NamedValue → Type 0
AssignsElements entries name possible after = (n : ℕ) (h : Bindings) (i : Value) (is : List Value) (v : Value) → EachStands entries n h → MayBe possible n v → EachStands after n (assign h (at_key name (i ∷ is)) v)

-- the state once a name lost what was assigned to it
abbrev pub Clears : (pinned entries : List NamedValue) → List ℕ → List NamedValue → Type 0
Clears pinned entries name after = (pins : Variables) (n : ℕ) (h : Bindings) → PinsStand pinned pins → h.pins ≡ pins → EachStands entries n h → EachStands after n (unset h name)

-- the state once a step is paid
abbrev pub PaysStep : List NamedValue → List NamedValue → Type 0
PaysStep entries after = (n : ℕ) (h : Bindings) → EachStands entries (suc n) h → EachStands after n h

-- an entry, with another abstract value where it has this name
abbrev pub with_value : List ℕ → AbstractValue → NamedValue → NamedValue
with_value name value entry = if bytes_eq entry.name name then record { name = entry.name; value = value } else entry
