-- What expressions give, and what a state is once a variable got a value.
use Rattle.std.specs.Prelude.{◌≡◌, ℕ, Result, Ok, Err}
use Rattle.ctd_store.specs.Store.{Key}
use Rattle.ctd_transfer.specs.Prelude.{AbstractState, Bindings, Context, Evaluation, ExprTree, Fault, Faults, IsAmong, IsKnown, IsLimited, Limits, MayBe, PinsStand, PossibleValues, StateStands, Value, VarTree, Variables, assign, key, pins_in, val}

-- a value is one that may be, and what is known of it is so; or a fault is among those that may be
abbrev pub IsEvaluated : Context → Evaluation → ℕ → Bindings → Result Value Fault → Type 0
IsEvaluated g r n h (Ok v) = MayBe r.found.values n v × IsKnown g.names.now h r.limits v
IsEvaluated g r n h (Err fault) = IsAmong r.found.faults fault

-- what an expression gives in a state
abbrev pub Evaluates : Context → AbstractState → ExprTree → Evaluation → Type 0
Evaluates g st e r = (n : ℕ) (h : Bindings) → StateStands g st n h → IsEvaluated g r n h (val e h)

-- the state once a key was given a value, or a fault of its indices
abbrev pub IsAssigned : Context → AbstractState → Faults → ℕ → Bindings → Value → Result Key Fault → Type 0
IsAssigned g after f n h v (Ok k) = StateStands g after n (assign h k v)
IsAssigned g after f n h v (Err why) = IsAmong f why

-- the state once a variable got one of some values, of which something is known
abbrev pub Assigns : Context → AbstractState → VarTree → PossibleValues → Limits → AbstractState → Faults → Type 0
Assigns g st target possible limits after f = (pins : Variables) (n : ℕ) (h : Bindings) (v : Value) → PinsStand (pins_in g) pins → h.pins ≡ pins → StateStands g st n h → MayBe possible n v → IsLimited g.names.now h limits v → IsAssigned g after f n h v (key target h)

-- the state where one of some values is expected, which no variable gets
abbrev pub Expects : Context → AbstractState → PossibleValues → AbstractState → Type 0
Expects g st possible after = (n : ℕ) (h : Bindings) (v : Value) → StateStands g st n h → MayBe possible n v → StateStands g after n h
