-- Passages through a loop.
use Rattle.std.specs.Prelude.{◌≡◌, ◌⊎◌, List, Option, None, Some, Result, Ok}
use Rattle.ctd_traps.specs.Prelude.{AbstractState, Context, Counting, LoopStart, Noted, PartitionIsWithin, Passage, Place}
use Rattle.ctd_program.specs.declared.tree.Loop.{Loop}
use Rattle.ctd_states.specs.declared.stop.Stop.{Stop}
use Rattle.ctd_traps.specs.inner.Noted.{AreNoted}
use Rattle.ctd_traps.specs.inner.Unrolled.{TurnsKeep}
use Rattle.ctd_traps.specs.inner.Walk.{AreCounted, IsBegun}

-- the turns of a loop lead from the states before it to those behind it, and all that may happen there is noted
pub record Passes (g : Context) (states : List AbstractState) (counting : Counting) (place : Place) (l : Loop) (p : Passage) : Type 0 where
  pub start_noted : AreNoted p.inside place counting.turns.faults
  pub turns : AreCounted g l counting → TurnsKeep g states p.after.items p.inside place l counting 0

-- a loop starts so in some states
abbrev pub BegunFrom : Context → List AbstractState → LoopStart → Loop → Type 0
BegunFrom g states begun l = IsBegun g states l begun.counting begun.first.inside.items begun.first.outside.items begun.first.faults

-- a passage from all states in which the loop starts so
abbrev pub PassesOnceBegun : Context → LoopStart → Place → Loop → Passage → Type 0
PassesOnceBegun g begun place l p = (states : List AbstractState) → BegunFrom g states begun l → Passes g states begun.counting place l p

-- a passage to the states leaving the loop before its first turn, and before later ones
pub record IsJoined (g : Context) (first later : List AbstractState) (inside : Noted) (p : Passage) : Type 0 where
  pub first_after : PartitionIsWithin g first p.after.items
  pub later_after : PartitionIsWithin g later p.after.items
  pub noted : p.inside ≡ inside

-- one of two passages, if there is a second
abbrev pub IsOneOf : Passage → Option Passage → Passage → Type 0
IsOneOf one other p = (p ≡ one) ⊎ (other ≡ Some p)

-- what was found, or none
abbrev pub IsSameOrNone : Result (Option Passage) Stop → Result (Option Passage) Stop → Type 0
IsSameOrNone found answer = (answer ≡ found) ⊎ (answer ≡ Ok None)

-- one of two passages, or none
abbrev pub IsEither : Option Passage → Option Passage → Option Passage → Type 0
IsEither one other o = (o ≡ one) ⊎ (o ≡ other)
