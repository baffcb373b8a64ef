-- What is known of the turns of a loop, and how their counter gets its numbers.
use Rattle.std.specs.Prelude.{◌≡◌, ◌≤◌, ℕ, ℤ, suc, pos, true, false, List, [], ◌∷◌, Option, Some, None, Result, Ok, Err}
use Rattle.std.specs.Borrow.{Bor}
use Rattle.ctd_program.specs.Tree
use Rattle.ctd_program.specs.declared.tree.Compare.{Compare}
use Rattle.ctd_program.specs.declared.tree.Loop.{Loop}
use Rattle.ctd_outcome.specs.declared.reason.Fault.{Fault}
use Rattle.ctd_store.specs.declared.value.Value.TheVariants as values
use Rattle.ctd_elements.specs.declared.fact.Bound.{Bound}
use Rattle.ctd_elements.specs.declared.fact.Index.{Index}
use Rattle.ctd_elements.specs.calls.Bounds.{IsAt, IsBound}
use Rattle.ctd_elements.specs.calls.Limits.{IsAtLeastAll, IsAtMostAll, IsExactly}
use Rattle.ctd_limits.specs.declared.known.ValueLimits.{ValueLimits}
use Rattle.ctd_range.specs.calls.Ranges.{Relates}
use Rattle.ctd_states.specs.calls.States.{at_key}
use Rattle.ctd_partitions.specs.calls.States.{IsPinnedBy}
use Rattle.ctd_value.specs.Fault.{◌>>=◌}
use Rattle.ctd_value.specs.Val.{in_count, number}
use Rattle.ctd_traps.specs.Prelude.{AbstractState, Bindings, Context, Counting, ExprTree, Faults, Fits, GuardTree, IsAmong, IsIn, IsKnown, Phase, PinsStand, Range, State, StateStands, StaysIn, TestData, Turns, Value, VarTree, Variables, assign, count, count_turn, guard_of, pins_in}
use Rattle.ctd_traps.specs.inner.Sparing.{SparesLoop}
use Rattle.ctd_traps.specs.inner.Walk.{HasNumber, IsBehind, IsGuard, IsTurn, Unchanged}

-- a bound has the same numbers all through a loop
abbrev pub BoundLasts : List (Bor (List ℕ)) → Loop → Bound → Type 0
BoundLasts names l b = (h after : Bindings) (z : ℤ) → Unchanged (λ name. SparesLoop name l) h after → IsBound names h b z → IsBound names after b z

-- all of these bounds have the same numbers all through a loop
abbrev pub AllLast : List (Bor (List ℕ)) → Loop → List Bound → Type 0
AllLast names l [] = Unit {0}
AllLast names l (b ∷ bs) = BoundLasts names l b × AllLast names l bs

-- some of these bounds, which all have the same numbers all through a loop
pub record AreLasting (names : List (Bor (List ℕ))) (l : Loop) (bounds kept : List Bound) : Type 0 where
  pub lows : (h : Bindings) (v : Value) → IsAtLeastAll names h bounds v → IsAtLeastAll names h kept v
  pub highs : (h : Bindings) (v : Value) → IsAtMostAll names h bounds v → IsAtMostAll names h kept v
  pub last : AllLast names l kept

-- an index has the same value all through a loop
abbrev pub IndexLasts : List (Bor (List ℕ)) → Loop → Index → Type 0
IndexLasts names l index = (h after : Bindings) (v : Value) → Unchanged (λ name. SparesLoop name l) h after → IsAt names h index v → IsAt names after index v

-- this index or none, which has the same value all through a loop
pub record IsLasting (names : List (Bor (List ℕ))) (l : Loop) (exact kept : Option Index) : Type 0 where
  pub said : (h : Bindings) (v : Value) → IsExactly names h exact v → IsExactly names h kept v
  pub lasts : (h after : Bindings) (v : Value) → Unchanged (λ name. SparesLoop name l) h after → IsExactly names h kept v → IsExactly names after kept v

-- less is known of a value, and all through a loop
pub record KnowsLasting (names : List (Bor (List ℕ))) (l : Loop) (count kept : ValueLimits) : Type 0 where
  pub said : (h : Bindings) (v : Value) → IsKnown names h count v → IsKnown names h kept v
  pub lasts : (h after : Bindings) (v : Value) → Unchanged (λ name. SparesLoop name l) h after → IsKnown names h kept v → IsKnown names after kept v

-- a value that has to be a count
abbrev pub as_count : Result Value Fault → Result ℕ Fault
as_count r = (r >>= number) >>= in_count

-- a count of turns is at least and at most so large, and something is known of it; or it has a fault of these
abbrev pub IsCounted : Context → Turns → Bindings → Result ℕ Fault → Type 0
IsCounted g turns h (Ok m) = (turns.least ≤ m) × (m ≤ turns.most) × IsKnown g.names.now h turns.count (values.Int (pos m))
IsCounted g turns h (Err why) = IsAmong turns.faults why

-- how many turns a loop has
abbrev pub Counts : Context → AbstractState → ExprTree → Turns → Type 0
Counts g st e turns = (n : ℕ) (h : Bindings) → StateStands g st n h → IsCounted g turns h (count e h)

-- a loop starts
abbrev pub Starts : Context → AbstractState → GuardTree → Turns → Type 0
Starts g st guard turns = (d : TestData) (n : ℕ) (s : State) → StateStands g st n s.store → Fits turns.faults (λ started t. IsGuard g guard turns s.store started × (t ≡ s)) (guard_of guard d s)

-- of the number of a turn, which the counter is to get
abbrev pub KnowsTurn : Context → AbstractState → VarTree → Phase → Counting → ValueLimits → Type 0
KnowsTurn g st target phase counting limits = (n k : ℕ) (h : Bindings) → IsTurn phase n k → IsBehind counting (Some target) k h → StateStands g st n h → IsKnown g.names.now h limits (values.Int (pos k))

-- the state where the number of a turn, which the counter has, compares so with the count
abbrev pub StandsBeside : Context → AbstractState → VarTree → Compare → Counting → AbstractState → Type 0
StandsBeside g st target by counting after = (n k m : ℕ) (h : Bindings) → (counting.is_name ≡ true → HasNumber (Some target) k h × IsKnown g.names.now h counting.turns.count (values.Int (pos m))) → Relates by (pos k) (pos m) → StateStands g st n h → StateStands g after n h

-- a counter is a free name, and what is known of the count is so once it got a number
pub record IsFreeOf (g : Context) (counting : Counting) (target : VarTree) : Type 0 where
  pub indices : target.indices ≡ Tree.none
  pub free : IsPinnedBy g target.name [] false
  pub lasts : (h : Bindings) (v : Value) (m : ℕ) → IsKnown g.names.now h counting.turns.count (values.Int (pos m)) → IsKnown g.names.now (assign h (at_key target.name []) v) counting.turns.count (values.Int (pos m))

-- where the count is a name, the counter, if there is one, is free of it
abbrev pub CountsFreely : Context → Counting → Option VarTree → Type 0
CountsFreely g counting None = Unit {0}
CountsFreely g counting (Some target) = counting.is_name ≡ true → IsFreeOf g counting target

-- the number of a turn compares so with the count
abbrev pub IsBeside : Context → Counting → Option Compare → ℕ → Bindings → Type 0
IsBeside g counting None k h = Unit {0}
IsBeside g counting (Some by) k h = (m : ℕ) × IsKnown g.names.now h counting.turns.count (values.Int (pos m)) × Relates by (pos k) (pos m)

-- a state describes that of a run with these pins
abbrev pub StaysAt : Context → Variables → AbstractState → ℕ → State → Type 0
StaysAt g pins st n s = (s.store.pins ≡ pins) × StateStands g st n s.store

-- the counter of a loop, if there is one, gets the number of a turn, which compares so with the count
abbrev pub CountsTurn : Context → AbstractState → Option VarTree → Range → Phase → Option Compare → Counting → AbstractState → Faults → Type 0
CountsTurn g st target turn phase by counting after f = CountsFreely g counting target → (pins : Variables) (d : TestData) (k n : ℕ) (s : State) → IsTurn phase n k → IsIn turn n (pos k) → IsBehind counting target k s.store → IsBeside g counting by k s.store
    → PinsStand (pins_in g) pins → StaysAt g pins st n s → Fits f (λ _ t. StaysAt g pins after n t) (count_turn target k d s)

-- the same in one of some states, once a step was paid
abbrev pub CountsEach : Context → List AbstractState → Option VarTree → Range → Phase → Option Compare → Counting → List AbstractState → Faults → Type 0
CountsEach g states target turn phase by counting after f = CountsFreely g counting target → (pins : Variables) (d : TestData) (k n : ℕ) (s : State) → IsTurn phase n k → IsIn turn n (pos k) → IsBehind counting target k s.store → IsBeside g counting by k s.store
    → PinsStand (pins_in g) pins → StaysIn g pins states (suc n) s → Fits f (λ _ t. StaysIn g pins after n t) (count_turn target k d s)

-- the same where a loop is over, since its number of turns is that of the turn
abbrev pub CountsLast : Context → List AbstractState → Option VarTree → Phase → Counting → List AbstractState → Faults → Type 0
CountsLast g states target phase counting after f = CountsFreely g counting target → (pins : Variables) (d : TestData) (k n : ℕ) (s : State) → IsTurn phase n k → IsBehind counting target k s.store → counting.turns.least ≤ k → k ≤ counting.turns.most
    → IsKnown g.names.now s.store counting.turns.count (values.Int (pos k)) → PinsStand (pins_in g) pins → StaysIn g pins states (suc n) s → Fits f (λ _ t. StaysIn g pins after n t) (count_turn target k d s)
