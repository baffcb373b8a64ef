-- What a walk over commands finds out.
use Rattle.std.specs.Prelude.{◌≡◌, ◌≤◌, ℕ, zero, suc, pos, ◌^◌, ◌-◌, Bool, true, false, List, [], Option, Some, None}
use Rattle.ctd_traps.specs.Prelude.{AbstractState, Bindings, Choice, CommandList, CommandTree, Context, Counting, Faults, Fits, Guard, GuardTree, IsIn, IsKnown, Noted}
use Rattle.ctd_traps.specs.Prelude.{OneStands, PartitionIsWithin, Phase, PinsStand, Place, Range, Separator, Started, State, StaysIn, TestData, TestTree, Turns, VarTree, Variables}
use Rattle.ctd_traps.specs.Prelude.{boxed_separator, boxed_target, command_list, guard_of, guard_tree, out-Choice, out-Loop, pins_in, separator_before, take_turn, test_tree, times, value_at, while_true}
use Rattle.ctd_program.specs.Tree
use Rattle.ctd_program.specs.declared.tree.Loop.{Loop}
use Rattle.ctd_partitions.specs.calls.States.{IsPinnedBy}
use Rattle.ctd_states.specs.calls.States.{at_key}
use Rattle.ctd_store.specs.declared.value.Value.TheVariants as values
use Rattle.ctd_traps.specs.declared.turn.Phase.TheVariants as phases
use Rattle.ctd_transfer.specs.calls.Tests.{Divides}
use Rattle.ctd_traps.specs.declared.joined.Moment.TheVariants as moments
use Rattle.ctd_traps.specs.calls.Events.{answers}
use Rattle.ctd_traps.specs.inner.Holds.{Holds}
use Rattle.ctd_traps.specs.inner.Noted.{AreNoted, BegunIn, FoundIn, IsPart, NotedIn, noted_in}
use Rattle.ctd_traps.specs.inner.Sparing.{Spares, SparesBetween, SparesEach, SparesLoop, SparesTurns}
use Rattle.ctd_traps.specs.inner.Triples.{Before, Leads, CommandLeads}

-- names without indices of which this holds have the values that they had
abbrev pub Unchanged : (List ℕ → Type 0) → (before after : Bindings) → Type 0
Unchanged spared h after = (name : List ℕ) → spared name → value_at after (at_key name []) ≡ value_at h (at_key name [])

-- one of some states describes the state of a run, and such names have the values that they had
abbrev pub HoldsBeside : Context → Variables → List AbstractState → (List ℕ → Type 0) → Bindings → Before
HoldsBeside g pins states spared h n s = Holds g pins states n s × Unchanged spared h s.store

-- commands lead from some states to others and leave alone the names that they spare, and all that happens in them is noted in what has all these notes
abbrev pub WalkKeeps : Context → (states after : List AbstractState) → Noted → CommandList → Type 0
WalkKeeps g states after noted cs = (pins : Variables) (d : TestData) (all : Noted) (h : Bindings) → PinsStand (pins_in g) pins → IsPart g noted all
    → Leads d (noted_in g all) (HoldsBeside g pins states (λ name. SparesEach name cs) h) cs (HoldsBeside g pins after (λ name. SparesEach name cs) h)

-- the same of a command
abbrev pub StepKeeps : Context → (states after : List AbstractState) → Noted → CommandTree → Type 0
StepKeeps g states after noted c = (pins : Variables) (d : TestData) (all : Noted) (h : Bindings) → PinsStand (pins_in g) pins → IsPart g noted all
    → CommandLeads d (noted_in g all) (HoldsBeside g pins states (λ name. Spares name c) h) c (HoldsBeside g pins after (λ name. Spares name c) h)

-- the same of the separator of a loop
abbrev pub SeparatorKeeps : Context → (states after : List AbstractState) → Noted → Separator → Type 0
SeparatorKeeps g states after noted sep = (pins : Variables) (d : TestData) (all : Noted) (k : ℕ) (h : Bindings) → PinsStand (pins_in g) pins → IsPart g noted all
    → Leads d (noted_in g all) (HoldsBeside g pins states (λ name. SparesBetween name sep) h) (separator_before (suc k) sep) (HoldsBeside g pins after (λ name. SparesBetween name sep) h)

-- what a test of a command gives in some states, of which all is noted
pub record Asks (g : Context) (states if_true if_false : List AbstractState) (t : TestTree) (f : Faults) (noted : Noted) (place : Place) : Type 0 where
  pub divides : Divides g states t if_true if_false f
  pub begun : BegunIn g noted place states
  pub true_noted : NotedIn g noted place (answers true) if_true
  pub false_noted : NotedIn g noted place (answers false) if_false
  pub faults_noted : AreNoted noted place f

-- how a loop goes on that has started: one that counts has at least and at most so many turns, and something is known of their number
abbrev pub IsGuard : Context → GuardTree → Turns → Bindings → Guard → Type 0
IsGuard g (Tree.turns e) turns h (times m) = (turns.least ≤ m) × (m ≤ turns.most) × IsKnown g.names.now h turns.count (values.Int (pos m))
IsGuard g (Tree.turns e) turns h (while_true t) = ⊥
IsGuard g (Tree.while t) turns h (times m) = ⊥
IsGuard g (Tree.while t) turns h (while_true u) = u ≡ t

-- a loop starts in one of some states
abbrev pub StartsIn : Context → List AbstractState → GuardTree → Turns → Type 0
StartsIn g states guard turns = (d : TestData) (n : ℕ) (s : State) → OneStands g states n s.store → Fits turns.faults (λ started t. IsGuard g guard turns s.store started × (t ≡ s)) (guard_of guard d s)

-- what is known of the number of turns lasts as long as the names that the loop spares keep their values
abbrev pub Lasts : Context → Turns → Loop → Type 0
Lasts g turns l = (h after : Bindings) (m : ℕ) → Unchanged (λ name. SparesLoop name l) h after → IsKnown g.names.now h turns.count (values.Int (pos m)) → IsKnown g.names.now after turns.count (values.Int (pos m))

-- a counter is a name without indices that no preset pins
abbrev pub IsFreeName : Context → Option VarTree → Type 0
IsFreeName g None = ⊥
IsFreeName g (Some v) = (v.indices ≡ Tree.none) × IsPinnedBy g v.name [] false

-- a counter still has its number at the end of a turn
abbrev pub IsSpared : Option VarTree → Loop → Type 0
IsSpared None l = ⊥
IsSpared (Some v) l = SparesTurns v.name l

-- what is known of the turns of a loop and of its counter
pub record AreCounted (g : Context) (l : Loop) (counting : Counting) : Type 0 where
  pub lasts : Lasts g counting.turns l
  pub is_name : counting.is_name ≡ true → IsFreeName g (boxed_target (out-Loop l).counter)
  pub is_kept : counting.is_kept ≡ true → IsSpared (boxed_target (out-Loop l).counter) l

-- the numbers of later turns
abbrev pub later_turn : Range
later_turn = record { low = pos 1; high = pos (2 ^ 64 - 1); rise = 0; fall = 1 }

-- a turn has a number, or it is a later one, where so many steps are left
abbrev pub IsTurn : Phase → ℕ → ℕ → Type 0
IsTurn (phases.At j) n k = k ≡ j
IsTurn phases.Later n k = IsIn later_turn n (pos k)

-- a counter has the number of a turn
abbrev pub HasNumber : Option VarTree → ℕ → Bindings → Type 0
HasNumber None k h = ⊥
HasNumber (Some v) k h = value_at h (at_key v.name []) ≡ Some (values.Int (pos k))

-- where a turn begins but the first, a counter that is left alone has the number of the last one
abbrev pub IsBehind : Counting → Option VarTree → ℕ → Bindings → Type 0
IsBehind counting counter zero h = Unit {0}
IsBehind counting counter (suc k) h = counting.is_name ≡ true → counting.is_kept ≡ true → HasNumber counter k h

-- a loop that counts has at least so many turns
abbrev pub HasTurns : ℕ → Guard → Type 0
HasTurns k (times m) = k ≤ m
HasTurns k (while_true t) = Unit {0}

-- what holds where a turn begins, and where a loop is over
abbrev pub ByTurn : (State → Type 0) → (State → Type 0) → Bool → State → Type 0
ByTurn inside outside true t = inside t
ByTurn inside outside false t = outside t

-- the begin of a turn, once its step is paid
abbrev pub Enters : Context → List AbstractState → Loop → Counting → Phase → (inside outside : List AbstractState) → Faults → Type 0
Enters g states l counting phase inside outside f = (pins : Variables) (d : TestData) (k n : ℕ) (s : State) (started : Started) → IsGuard g (guard_tree (out-Loop l).guard) counting.turns s.store started.guard → started.counter ≡ boxed_target (out-Loop l).counter
    → IsTurn phase n k → IsBehind counting started.counter k s.store → HasTurns k started.guard → PinsStand (pins_in g) pins → StaysIn g pins states (suc n) s
    → Fits f (λ b t. ByTurn (StaysIn g pins inside n) (StaysIn g pins outside n) b t) (take_turn started k d s)

-- how a loop starts, and how its first turn begins
pub record IsBegun (g : Context) (states : List AbstractState) (l : Loop) (counting : Counting) (inside outside : List AbstractState) (f : Faults) : Type 0 where
  pub starts : StartsIn g states (guard_tree (out-Loop l).guard) counting.turns
  pub counted : AreCounted g l counting
  pub enters : Enters g states l counting (phases.At 0) inside outside f

-- how a later turn begins by a candidate, and all that may happen where a turn begins is noted
pub record BeginsLater (g : Context) (candidate : List AbstractState) (counting : Counting) (first_inside first_outside : List AbstractState) (first : Faults) (inside outside : List AbstractState) (later : Faults) (noted : Noted) (place : Place) (l : Loop) : Type 0 where
  pub enters : AreCounted g l counting → Enters g candidate l counting phases.Later inside outside later
  pub ended : FoundIn g noted place moments.TurnEnded candidate
  pub start_noted : AreNoted noted place counting.turns.faults
  pub first_noted : AreNoted noted place first
  pub later_noted : AreNoted noted place later
  pub first_true : NotedIn g noted place (answers true) first_inside
  pub first_false : NotedIn g noted place (answers false) first_outside
  pub later_true : NotedIn g noted place (answers true) inside
  pub later_false : NotedIn g noted place (answers false) outside

-- the states behind IF, and those behind each of its branches
pub record AreBranches (g : Context) (yes no after : List AbstractState) : Type 0 where
  pub yes_after : PartitionIsWithin g yes after
  pub no_after : PartitionIsWithin g no after

-- a later turn leads from a candidate to the states leaving the loop, and each turn to the states at its end
pub record RoundKeeps (g : Context) (candidate : List AbstractState) (counting : Counting) (first_inside first_outside : List AbstractState) (first : Faults) (outside end : List AbstractState) (noted : Noted) (place : Place) (l : Loop) : Type 0 where
  pub later_inside : List AbstractState
  pub later : Faults
  pub before : List AbstractState
  pub begun : BeginsLater g candidate counting first_inside first_outside first later_inside outside later noted place l
  pub separates : SeparatorKeeps g later_inside before noted (boxed_separator (out-Loop l).between)
  pub first_before : PartitionIsWithin g first_inside before
  pub body : WalkKeeps g before end noted (command_list (out-Loop l).body)

-- the tree of a loop of the code at a place
abbrev pub loop_at : Place → Loop → CommandTree
loop_at place l = Tree.loop place (guard_tree (out-Loop l).guard) (boxed_target (out-Loop l).counter) (boxed_separator (out-Loop l).between) (command_list (out-Loop l).body)

-- the tree of IF
abbrev pub choice_at : Place → Choice → CommandTree
choice_at place c = Tree.choice place (test_tree (out-Choice c).condition.value) (command_list (out-Choice c).then_do) (command_list (out-Choice c).else_do)
