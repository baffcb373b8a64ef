-- States with facts, step by step.
use Rattle.std.specs.Prelude.{◌≡◌, ℕ, List, [], ◌∷◌}
use Rattle.ctd_store.specs.declared.value.Value.{Value}
use Rattle.ctd_store.specs.Store.{Bindings, Variables, assign}
use Rattle.ctd_states.specs.declared.assign.Context.{Context}
use Rattle.ctd_states.specs.declared.value.AbstractValue.{AbstractValue}
use Rattle.ctd_states.specs.declared.value.PossibleValues.{PossibleValues}
use Rattle.ctd_states.specs.calls.States.{MayBe, PinsStand, at_key, pins_in}
use Rattle.ctd_elements.specs.declared.fact.Fact.{Fact}
use Rattle.ctd_elements.specs.declared.limits.Limits.{Limits}
use Rattle.ctd_elements.specs.calls.Blocks.{AllStand}
use Rattle.ctd_elements.specs.calls.Limits.{IsLimited}
use Rattle.ctd_element_changes.specs.calls.Joins.{IsPartOf}
use Rattle.ctd_partitions.specs.declared.change.Position.{Position}
use Rattle.ctd_partitions.specs.declared.state.State.{State}
use Rattle.ctd_partitions.specs.calls.States.{AreAtPosition, StateStands}

-- the same of its facts
abbrev pub AssignsFacts : Context → State → List ℕ → Limits → List Fact → Type 0
AssignsFacts g st name limits after = (pins : Variables) (n : ℕ) (h : Bindings) (v : Value) → PinsStand (pins_in g) pins → h.pins ≡ pins → StateStands g st n h → IsLimited g.names.now h limits v → AllStand g.names.now (assign h (at_key name []) v) after

-- facts that are so once an element got a value
abbrev pub AssignsFactsAt : Context → State → List ℕ → Position → Limits → List Fact → Type 0
AssignsFactsAt g st name at limits after = (pins : Variables) (n : ℕ) (h : Bindings) (i : Value) (is : List Value) (v : Value) → PinsStand (pins_in g) pins → h.pins ≡ pins → StateStands g st n h → AreAtPosition g h at (i ∷ is) → IsLimited g.names.now h limits v → AllStand g.names.now (assign h (at_key name (i ∷ is)) v) after

-- no run comes to a state
abbrev pub IsNever : State → Type 0
IsNever st = (g : Context) (n : ℕ) (h : Bindings) → StateStands g st n h → ⊥

-- where a state describes variables, facts are so
abbrev pub FactsLead : Context → State → List Fact → Type 0
FactsLead g st fs = (n : ℕ) (h : Bindings) → StateStands g st n h → AllStand g.names.now h fs

-- no value is among those that may be
abbrev pub IsNone : PossibleValues → Type 0
IsNone possible = (n : ℕ) (v : Value) → MayBe possible n v → ⊥

-- a state with these values, and with some of these facts
abbrev pub IsTidied : List AbstractValue → List Fact → State → Type 0
IsTidied entries fs st = (st.entries.items ≡ entries) × IsPartOf st.facts.items fs
