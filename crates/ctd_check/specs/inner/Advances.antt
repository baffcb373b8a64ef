-- What the steps of a run ensure.
use Rattle.ctd_check.specs.declared.halt.Halt.TheVariants as halts
use Rattle.std.specs.Prelude.{◌≡◌, ℕ, Result, Ok, Err, OnOk, List, []}
use Rattle.ctd_source.specs.declared.source.Source.{Ghosts}
use Rattle.ctd_source.specs.TestData.{TestData}
use Rattle.ctd_source.specs.calls.Received.{AdvancesSuchThat}
use Rattle.ctd_command.specs.declared.machine.Run.{Run}
use Rattle.ctd_command.specs.calls.Performs.{state, IsSound}
use Rattle.ctd_command.specs.State.{State}
use Rattle.ctd_check.specs.declared.halt.Halt.{Halt}
use Rattle.ctd_check.specs.Loops.{Task}
use Rattle.ctd_check.specs.Run.{RunResult, stopped, run}

-- with so many steps left, these tasks and this state the whole run goes on; or it is over, with this outcome
abbrev pub ContinuesWith : {A : Type 0} → TestData → Result A Halt → ℕ → List Task → State → RunResult → Type 0
ContinuesWith d (Ok x) left rest s whole = whole ≡ run d left rest s
ContinuesWith d (Err (halts.Outcome outcome)) left rest s whole = whole ≡ stopped outcome s.offset left
ContinuesWith d (Err halts.Memory) left rest s whole = Unit {0}

module _ {R : Type 0} {G : Ghosts R} where
  -- for all these data, what was to be done with so many steps left is what is to be done with those that are left now, or the run is over
  pub record Advances {A : Type 0} (old new : Run R G) (left : ℕ) (before : List Task) (left_now : ℕ) (after : List Task) (result : Result A Halt) : Type 0 where
    pub sound : OnOk result (IsSound new)
    pub goes : AdvancesSuchThat old.cursor new.cursor (λ d. ContinuesWith d result left_now after (state new) (run d left before (state old)))

  -- for all these data, the run that is meant is over, with so many steps left
  pub record RunsTo {A : Type 0} (old new : Run R G) (meant : TestData → RunResult) (left_now : ℕ) (result : Result A Halt) : Type 0 where
    pub sound : OnOk result (IsSound new)
    pub goes : AdvancesSuchThat old.cursor new.cursor (λ d. ContinuesWith d result left_now [] (state new) (meant d))
