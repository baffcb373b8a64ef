-- What commands do in one state in which no others stand.
use Rattle.std.specs.Prelude.{◌≡◌, ℕ, ⊤, List, fold, Option}
use Rattle.ctd_transfer.specs.Prelude.{AbstractState, Act, Bindings, CommandTree, Context, Faults, IsLimited, Limits, MayBe, PinsStand, PossibleValues, State, StateStands, TestData, Value, VarTree, Variables, keep, pins_in, unset}
use Rattle.ctd_transfer.specs.calls.Acts.{Does, Fits}

-- an abstract state describes the state of a run with these pins
abbrev pub Stays : Context → Variables → AbstractState → ℕ → State → Type 0
Stays g pins st n s = (s.store.pins ≡ pins) × StateStands g st n s.store

-- the transfer function of a simple command is sound
abbrev pub Acts : Context → (st after : AbstractState) → Faults → Act ⊤ → Type 0
Acts g st after f m = (pins : Variables) (d : TestData) (n : ℕ) (s : State) → PinsStand (pins_in g) pins → Stays g pins st n s → Fits f (λ _ t. Stays g pins after n t) (m d s)

-- the state once a target, if there is one, got one of some values, of which something is known
abbrev pub KeepsValue : Context → AbstractState → Option VarTree → PossibleValues → Limits → AbstractState → Faults → Type 0
KeepsValue g st target possible limits after f = (pins : Variables) (d : TestData) (n : ℕ) (s : State) (v : Value) → PinsStand (pins_in g) pins → Stays g pins st n s → MayBe possible n v → IsLimited g.names.now s.store limits v → Fits f (λ _ t. Stays g pins after n t) (keep target v d s)

-- the state once several names lost what was assigned to them
abbrev pub ClearsAll : Context → AbstractState → List (List ℕ) → AbstractState → Type 0
ClearsAll g st names after = (pins : Variables) (n : ℕ) (h : Bindings) → PinsStand (pins_in g) pins → h.pins ≡ pins → StateStands g st n h → StateStands g after n (fold unset h names)

-- the transfer function of a plain command is sound, or the command stops by one of these faults
abbrev pub ActKeeps : Context → (st after : AbstractState) → Faults → CommandTree → Type 0
ActKeeps g st after f c = Does c (Acts g st after f)
