-- What commands do in which no others stand.
use Rattle.std.specs.Prelude.{◌≡◌, ℕ, ⊤, List}
use Rattle.ctd_program.specs.Tree
use Rattle.ctd_transfer.specs.Prelude.{AbstractState, Act, Bindings, CommandTree, Context, Effect, Faults, IsAmong, IsSimple, OneStands, PinsStand, State, TestData, Variables, done, faulty, pins_in, rejected}

-- one of some abstract states describes the state of a run with these pins
abbrev pub StaysIn : Context → Variables → List AbstractState → ℕ → State → Type 0
StaysIn g pins states n s = (s.store.pins ≡ pins) × OneStands g states n s.store

-- an effect leaves an answer and a state of which this holds, or it has a fault of these
abbrev pub Fits : {A : Type 0} → Faults → (A → State → Type 0) → Effect A → Type 0
Fits f after (done x t) = after x t
Fits f after (rejected reason consumed) = Unit {0}
Fits f after (faulty fault consumed) = IsAmong f fault

-- a command that has no test and no others in it
abbrev pub IsPlain : CommandTree → Type 0
IsPlain (Tree.space place) = ⊤
IsPlain (Tree.newline place) = ⊤
IsPlain (Tree.eof place) = ⊤
IsPlain (Tree.int place low high to) = ⊤
IsPlain (Tree.string place e) = ⊤
IsPlain (Tree.regex place literal to) = ⊤
IsPlain (Tree.assert place t) = ⊥
IsPlain (Tree.set place assignments) = ⊤
IsPlain (Tree.unset place names) = ⊤
IsPlain (Tree.loop place guard counter sep body) = ⊥
IsPlain (Tree.choice place t then_do else_do) = ⊥

-- a plain command does one act, of which this holds
pub record Does (c : CommandTree) (so : Act ⊤ → Type 0) : Type 0 where
  pub act : Act ⊤
  pub simple : IsSimple c act
  pub plain : IsPlain c
  pub holds : so act

-- an act leads to some states, or stops by one of these faults
abbrev pub ActsTo : Context → (after : List AbstractState) → Faults → ℕ → Bindings → Act ⊤ → Type 0
ActsTo g after f n h m = (pins : Variables) (d : TestData) (s : State) → s.store ≡ h → PinsStand (pins_in g) pins → h.pins ≡ pins → Fits f (λ _ t. StaysIn g pins after n t) (m d s)

-- a plain command leads from some states to others, or stops by one of these faults
abbrev pub ActsKeep : Context → (states after : List AbstractState) → Faults → CommandTree → Type 0
ActsKeep g states after f c = (n : ℕ) (h : Bindings) → OneStands g states n h → Does c (ActsTo g after f n h)
