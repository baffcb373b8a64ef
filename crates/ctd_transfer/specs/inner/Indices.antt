-- What is known of the indices of an element.
use Rattle.std.specs.Prelude.{◌≡◌, ℕ, List, [], ◌∷◌, Option, Some, None, Result, Ok, Err}
use Rattle.ctd_elements.specs.calls.Blocks.{Has}
use Rattle.ctd_elements.specs.calls.States.{Describes}
use Rattle.ctd_elements.specs.declared.fact.AbstractState.{AbstractState as View}
use Rattle.ctd_states.specs.calls.States.{at_key}
use Rattle.ctd_store.specs.Store.{value_at}
use Rattle.ctd_transfer.specs.Prelude.{AbstractState, Bindings, Context, Evaluation, ExprList, Fault, Faults, Indices, IsAmong, IsKnown, IsLimited, Limits, MayBe, PinsStand, PossibleValues, StateStands, Value, ValueLimits, Variables, key, pins_in, vals}
use Rattle.ctd_transfer.specs.calls.Results.{FailsBy}
use Rattle.ctd_transfer.specs.calls.Values.{IsAssigned}
use Rattle.ctd_transfer.specs.declared.indices.Indices.TheVariants as indices

-- a value is one that an index may have, and what is known of it is so
abbrev pub IsIndex : Context → Evaluation → ℕ → Bindings → Value → Type 0
IsIndex g r n h v = MayBe r.found.values n v × IsKnown g.names.now h r.limits v

-- values are those of indices, of which there is one at least
abbrev pub AreIndices : Context → Indices → ℕ → Bindings → List Value → Type 0
AreIndices g some n h [] = ⊥
AreIndices g (indices.One index) n h (i ∷ is) = (is ≡ []) × IsIndex g index n h i
AreIndices g (indices.Two index other) n h (i ∷ []) = ⊥
AreIndices g (indices.Two index other) n h (i ∷ j ∷ is) = (is ≡ []) × IsIndex g index n h i × IsIndex g other n h j
AreIndices g (indices.More f) n h (i ∷ is) = Unit {0}

-- a fault is one by which indices may fail
abbrev pub IsFaultOf : Indices → Fault → Type 0
IsFaultOf (indices.One index) fault = IsAmong index.found.faults fault
IsFaultOf (indices.Two index other) fault = (f : Faults) → ((why : Fault) → IsAmong index.found.faults why → IsAmong f why) → ((why : Fault) → IsAmong other.found.faults why → IsAmong f why) → IsAmong f fault
IsFaultOf (indices.More f) fault = IsAmong f fault

-- what a list of expressions gives as indices
abbrev pub AreEvaluated : Context → Indices → ℕ → Bindings → Result (List Value) Fault → Type 0
AreEvaluated g some n h (Ok is) = AreIndices g some n h is
AreEvaluated g some n h (Err fault) = IsFaultOf some fault

-- the values of a list of expressions are such indices, or it fails by such a fault
abbrev pub EvaluatesIndices : Context → AbstractState → ExprList → Indices → Type 0
EvaluatesIndices g st es some = (n : ℕ) (h : Bindings) → StateStands g st n h → AreEvaluated g some n h (vals es h)

-- a list of expressions fails at most by these faults
abbrev pub AllFailBy : Context → AbstractState → ExprList → Faults → Type 0
AllFailBy g st es f = (n : ℕ) (h : Bindings) → StateStands g st n h → FailsBy f (vals es h)

-- by a state, an array that is listed has a value at indices
abbrev pub IsSureAt : View → Option ℕ → Indices → Type 0
IsSureAt s None some = ⊥
IsSureAt s (Some array) some = (g : Context) (n : ℕ) (h : Bindings) (is : List Value) → s.names.now ≡ g.names.now → Describes s n h → AreIndices g some n h is → Has s.names.now h array is

-- by a state, this is known of the value of an element
abbrev pub KnowsElement : View → List ℕ → Indices → ValueLimits → Type 0
KnowsElement s name some l = (g : Context) (n : ℕ) (h : Bindings) (is : List Value) (v : Value) → s.names.now ≡ g.names.now → Describes s n h → AreIndices g some n h is → value_at h (at_key name is) ≡ Some v → IsKnown s.names.now h l v

-- the state once an element got one of some values, of which something is known
abbrev pub AssignsIndexed : Context → AbstractState → List ℕ → ExprList → PossibleValues → Limits → AbstractState → Faults → Type 0
AssignsIndexed g st name es possible limits after f = (pins : Variables) (n : ℕ) (h : Bindings) (v : Value) → PinsStand (pins_in g) pins → h.pins ≡ pins → StateStands g st n h → MayBe possible n v → IsLimited g.names.now h limits v → IsAssigned g after f n h v (key (record { name = name; indices = es }) h)
