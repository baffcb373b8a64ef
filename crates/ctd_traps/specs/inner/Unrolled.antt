-- Turns of a loop that are taken one by one.
use Rattle.std.specs.Prelude.{◌≡◌, ℕ, suc, true, false, List, ◌∷◌}
use Rattle.ctd_traps.specs.Prelude.{AbstractState, Bindings, Context, Counting, Faults, Guard, Noted, PinsStand, Place, Separator, Started, State, Task, TestData, Variables, boxed_separator, boxed_target, command_list, guard_tree, loop_of, out-Loop, pins_in, separator_before, turn}
use Rattle.ctd_program.specs.declared.tree.Loop.{Loop}
use Rattle.ctd_traps.specs.declared.turn.Phase.TheVariants as phases
use Rattle.ctd_traps.specs.declared.joined.Moment.TheVariants as moments
use Rattle.ctd_traps.specs.calls.Events.{answers}
use Rattle.ctd_traps.specs.inner.Noted.{AreNoted, FoundIn, IsPart, NotedIn, noted_in}
use Rattle.ctd_traps.specs.inner.PostFixpoint.{InTurn}
use Rattle.ctd_traps.specs.inner.Sparing.{SparesBetween, SparesLoop}
use Rattle.ctd_traps.specs.inner.Triples.{GoesOn, Leads, Safe}
use Rattle.ctd_traps.specs.inner.Walk.{AreCounted, Enters, HoldsBeside, IsGuard, WalkKeeps}

-- the loop of the code that has started
abbrev pub started_of : Place → Loop → Guard → Started
started_of place l guard = loop_of place guard (boxed_target (out-Loop l).counter) (boxed_separator (out-Loop l).between) (command_list (out-Loop l).body)

-- from some states before a turn the loop leads to others, and all that happens in it is noted in what has all these notes
abbrev pub TurnsKeep : Context → (states after : List AbstractState) → Noted → Place → Loop → Counting → ℕ → Type 0
TurnsKeep g states after noted place l counting k = (pins : Variables) (d : TestData) (all : Noted) (h : Bindings) (guard : Guard) → PinsStand (pins_in g) pins → IsPart g noted all → IsGuard g (guard_tree (out-Loop l).guard) counting.turns h guard
    → (n : ℕ) (ts : List Task) (s : State) → InTurn g pins l counting (started_of place l guard) h states k n s → GoesOn d (noted_in g all) n (HoldsBeside g pins after (λ name. SparesLoop name l) h) ts
    → Safe d (noted_in g all) n (turn (started_of place l guard) k ∷ ts) s

-- how a turn begins, and all that may happen there is noted
pub record BeginsAt (g : Context) (states : List AbstractState) (counting : Counting) (inside outside : List AbstractState) (f : Faults) (noted : Noted) (place : Place) (l : Loop) (k : ℕ) : Type 0 where
  pub ended : (j : ℕ) → k ≡ suc j → FoundIn g noted place moments.TurnEnded states
  pub enters : AreCounted g l counting → Enters g states l counting (phases.At k) inside outside f
  pub if_true : NotedIn g noted place (answers true) inside
  pub if_false : NotedIn g noted place (answers false) outside
  pub faults : AreNoted noted place f

-- the separator before a turn leads from some states to others
abbrev pub SeparatesAt : Context → (states after : List AbstractState) → Noted → ℕ → Separator → Type 0
SeparatesAt g states after noted k sep = (pins : Variables) (d : TestData) (all : Noted) (h : Bindings) → PinsStand (pins_in g) pins → IsPart g noted all
    → Leads d (noted_in g all) (HoldsBeside g pins states (λ name. SparesBetween name sep) h) (separator_before k sep) (HoldsBeside g pins after (λ name. SparesBetween name sep) h)

-- a turn leads from the states before it to those leaving the loop, and to those at its end
pub record TurnKeeps (g : Context) (states : List AbstractState) (counting : Counting) (outside end : List AbstractState) (noted : Noted) (place : Place) (l : Loop) (k : ℕ) : Type 0 where
  pub inside : List AbstractState
  pub before : List AbstractState
  pub faults : Faults
  pub begun : BeginsAt g states counting inside outside faults noted place l k
  pub separates : SeparatesAt g inside before noted k (boxed_separator (out-Loop l).between)
  pub body : WalkKeeps g before end noted (command_list (out-Loop l).body)
