-- A candidate for the invariant of a loop, and what makes it inductive.
use Rattle.std.specs.Prelude.{◌<◌, ◌+◌, ◌^◌, ℕ, suc, List}
use Rattle.ctd_traps.specs.Prelude.{AbstractState, Bindings, Context, Counting, PartitionIsWithin, Started, State, TestData, Variables, boxed_separator, boxed_target, command_list, out-Loop, separator_before, take_turn}
use Rattle.ctd_program.specs.declared.tree.Loop.{Loop}
use Rattle.ctd_traps.specs.declared.joined.Moment.TheVariants as moments
use Rattle.ctd_traps.specs.calls.Events.{Events, finds}
use Rattle.ctd_traps.specs.inner.Holds.{Holds}
use Rattle.ctd_traps.specs.inner.Sparing.{SparesBetween, SparesEach, SparesLoop}
use Rattle.ctd_traps.specs.inner.Triples.{Leads, Splits}
use Rattle.ctd_traps.specs.inner.Walk.{AreCounted, HasTurns, HoldsBeside, IsBehind, Unchanged}

-- the states before turn 0 and before each later turn; behind the begin of each; before the body, behind it, and behind the loop
pub record Candidate : Type 0 where
  pub first : List AbstractState
  pub later : List AbstractState
  pub first_inside : List AbstractState
  pub later_inside : List AbstractState
  pub before_body : List AbstractState
  pub after_body : List AbstractState
  pub after : List AbstractState

-- Of a loop that started in some variables so many turns have begun, and one of some states describes the variables. Each turn has cost a step at least.
pub record InTurn (g : Context) (pins : Variables) (l : Loop) (counting : Counting) (loop : Started) (h : Bindings) (states : List AbstractState) (k n : ℕ) (s : State) : Type 0 where
  pub paid : k + n < 2 ^ 64
  pub holds : Holds g pins states n s
  pub same : Unchanged (λ name. SparesLoop name l) h s.store
  pub behind : IsBehind counting (boxed_target (out-Loop l).counter) k s.store
  pub turns : HasTurns k loop.guard

-- Each part of a turn leads from its states to the next ones, and the states behind the body are within those before a later turn.
pub record IsPostFixpoint (d : TestData) (g : Context) (pins : Variables) (events : Events) (l : Loop) (counting : Counting) (loop : Started) (h : Bindings) (c : Candidate) : Type 0 where
  pub counted : AreCounted g l counting
  pub ended : (n : ℕ) (s : State) → Holds g pins c.later n s → events loop.place (finds moments.TurnEnded s.store)
  pub first_begin : (n : ℕ) (s : State) → InTurn g pins l counting loop h c.first 0 (suc n) s
      → Splits events loop.place (InTurn g pins l counting loop h c.first_inside 1 n) (HoldsBeside g pins c.after (λ name. SparesLoop name l) h n) (take_turn loop 0 d s)
  pub later_begin : (k n : ℕ) (s : State) → InTurn g pins l counting loop h c.later (suc k) (suc n) s
      → Splits events loop.place (InTurn g pins l counting loop h c.later_inside (suc (suc k)) n) (HoldsBeside g pins c.after (λ name. SparesLoop name l) h n) (take_turn loop (suc k) d s)
  pub first_body : PartitionIsWithin g c.first_inside c.before_body
  pub separator : (k : ℕ) (b : Bindings) → Leads d events (HoldsBeside g pins c.later_inside (λ name. SparesBetween name (boxed_separator (out-Loop l).between)) b)
      (separator_before (suc k) loop.between) (HoldsBeside g pins c.before_body (λ name. SparesBetween name (boxed_separator (out-Loop l).between)) b)
  pub body : (b : Bindings) → Leads d events (HoldsBeside g pins c.before_body (λ name. SparesEach name (command_list (out-Loop l).body)) b)
      loop.body (HoldsBeside g pins c.after_body (λ name. SparesEach name (command_list (out-Loop l).body)) b)
  pub again : PartitionIsWithin g c.after_body c.later
