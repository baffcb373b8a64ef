-- Laws of the run.
use Rattle.ctd_program.specs.Tree
use Rattle.std.specs.Prelude.{◌≡◌, ◌≢◌, ◌+◌, ◌≤◌, ◌<◌, ℕ, false, List, [], ◌∷◌, ◌++◌, length, take, Some}
use Rattle.ctd_source.specs.declared.limits.TheConstants.{WINDOW}
use Rattle.ctd_source.specs.declared.source.Source.{Ghosts}
use Rattle.ctd_source.specs.TestData.{TestData}
use Rattle.ctd_source.specs.declared.source.Seen.TheVariants.{Going, Broken}
use Rattle.ctd_source.specs.Agreement.{Agrees}
use Rattle.ctd_source.specs.calls.Agreement.{known, data_of_call}
use Rattle.ctd_program.specs.declared.mode.Mode.{Mode}
use Rattle.ctd_program.specs.declared.preset.Preset.{Preset}
use Rattle.ctd_program.specs.declared.limits.Limits.{Limits}
use Rattle.ctd_program.specs.Tree.{CommandList}
use Rattle.ctd_outcome.specs.declared.outcome.Checked.{Checked}
use Rattle.ctd_outcome.specs.declared.reason.Fault.TheVariants.{StepLimit, Read}
use Rattle.ctd_outcome.specs.declared.outcome.Outcome.{Outcome}
use Rattle.ctd_outcome.specs.declared.outcome.Outcome.TheVariants.{Accepted, Rejected, Stopped}
use Rattle.ctd_command.specs.State.{State}
use Rattle.ctd_check.specs.Loops.{Task, finish, tasks}
use Rattle.ctd_check.specs.Run.{RunResult, all_done, stopped, run, run_from, Meaning, with_steps, at_start, meaning}
use Rattle.ctd_check.specs.calls.Run.{Finds}
use Rattle.ctd_check.specs.calls.Checks.{FindsMeaning}

-- Lists in turn.
-- a run that did all its tasks goes on from the state and with the steps that it left
abbrev pub and_then : RunResult → (State → ℕ → RunResult) → RunResult
and_then (all_done after left) more = more after left
and_then (stopped outcome consumed left) more = stopped outcome consumed left

-- the run of two lists of tasks is that of the first and then, from its state and with its steps, of the second
abbrev pub ListsRunInTurn : Type 0
ListsRunInTurn = (d : TestData) (steps : ℕ) (first second : List Task) (s : State) → run d steps (first ++ second) s ≡ and_then (run d steps first s) (λ after left. run d left second after)

-- the commands of a list, and then those of another
abbrev pub followed_by : CommandList → CommandList → CommandList
followed_by Tree.done second = second
followed_by (Tree.then c rest) second = Tree.then c (followed_by rest second)

-- a program of two lists of commands does what the first does and then, from its state and with its steps, what the second and the end of the program do
abbrev pub CommandsMeanInTurn : Type 0
CommandsMeanInTurn = (mode : Mode) (first second : CommandList) (presets : List Preset) (d : TestData) (steps : ℕ) →
    meaning mode (followed_by first second) presets d steps ≡ with_steps steps (and_then (run_from d steps (tasks first) (at_start mode presets)) (λ after left. run d left (tasks second ++ finish ∷ []) after))

-- Limits of steps.
-- the outcome is StepLimit
abbrev pub IsStepLimit : Outcome → Type 0
IsStepLimit Accepted = ⊥
IsStepLimit (Rejected spot site reason) = ⊥
IsStepLimit (Stopped spot site fault) = fault ≡ StepLimit

-- the outcome is StepLimit, the whole limit is paid, and at most so many bytes are consumed
pub record StopsAtLimit (limit most : ℕ) (m : Meaning) : Type 0 where
  pub outcome : IsStepLimit m.outcome
  pub steps : m.steps ≡ limit
  pub consumed : m.consumed ≤ most

-- a law of the meanings under each limit of steps holds for every mode, program, presets and data
abbrev pub OfEveryProgram : ((ℕ → Meaning) → Type 0) → Type 0
OfEveryProgram Law = (mode : Mode) (program : CommandList) (presets : List Preset) (d : TestData) → Law (λ limit. meaning mode program presets d limit)

-- no more steps are paid than the limit
abbrev pub StepsAreWithin : (ℕ → Meaning) → Type 0
StepsAreWithin under = (n : ℕ) → (under n).steps ≤ n

-- where the outcome is not StepLimit, every limit of at least the steps paid gives the same outcome, steps and consumed
abbrev pub EnoughStepsAgree : (ℕ → Meaning) → Type 0
EnoughStepsAgree under = (n m : ℕ) → (IsStepLimit (under n).outcome → ⊥) → (under n).steps ≤ m → under m ≡ under n

-- every limit below the steps paid gives StepLimit, and no more is consumed
abbrev pub TooFewStepsStop : (ℕ → Meaning) → Type 0
TooFewStepsStop under = (n m : ℕ) → m < (under n).steps → StopsAtLimit m (under n).consumed (under m)

-- where the outcome is StepLimit the whole limit is paid, and every lower limit gives StepLimit too and consumes no more
abbrev pub LowerLimitsStop : (ℕ → Meaning) → Type 0
LowerLimitsStop under = (n m : ℕ) → IsStepLimit (under n).outcome → m ≤ n → StopsAtLimit m (under n).consumed (under m)

-- a higher limit consumes no less
abbrev pub MoreStepsConsumeNoLess : (ℕ → Meaning) → Type 0
MoreStepsConsumeNoLess under = (n m : ℕ) → n ≤ m → (under n).consumed ≤ (under m).consumed

-- tasks that are all done at the cost of so many steps are done at this cost under every limit that allows it, and leave the same state
abbrev pub CostIsTheSame : Type 0
CostIsTheSame = (d : TestData) (cost left other : ℕ) (ts : List Task) (s after : State) → run d (cost + left) ts s ≡ all_done after left → run d (cost + other) ts s ≡ all_done after other

-- Which bytes count.
-- the same limit, the same bytes before an offset, and where these are all, the same end
pub record AgreeUpTo (offset : ℕ) (d e : TestData) : Type 0 where
  pub limit : e.limit ≡ d.limit
  pub bytes : take offset e.bytes ≡ take offset d.bytes
  pub broken : length d.bytes < offset → e.broken ≡ d.broken

-- a program looks at most a window past what it consumes: it means the same on all data that agree up to there
abbrev pub LooksAWindowAhead : Type 0
LooksAWindowAhead = (mode : Mode) (program : CommandList) (presets : List Preset) (steps : ℕ) (d e : TestData) → AgreeUpTo ((meaning mode program presets d steps).consumed + WINDOW) d e → meaning mode program presets e steps ≡ meaning mode program presets d steps

-- the outcome is the fault that a read failed where a byte was needed
abbrev pub IsReadFault : Outcome → Type 0
IsReadFault Accepted = ⊥
IsReadFault (Rejected spot site reason) = ⊥
IsReadFault (Stopped spot site fault) = fault ≡ Read

-- bytes that are not looked at do not count: what a program means on some bytes, after which a read failed, is its meaning on all data that begin with these bytes, unless it is stopped by the failed read
abbrev pub UnreadBytesDoNotCount : Type 0
UnreadBytesDoNotCount = (mode : Mode) (program : CommandList) (presets : List Preset) (steps : ℕ) (given : List ℕ) (d : TestData) → Agrees given Going d →
    (IsReadFault (meaning mode program presets (known given Broken d.limit) steps).outcome → ⊥) → meaning mode program presets d steps ≡ meaning mode program presets (known given Broken d.limit) steps

-- What a check found.
-- all data that agree with the bytes taken and the end seen have the same meaning
abbrev pub TakenBytesDecide : {D : Type 0} (G : Ghosts D) → Type 0
TakenBytesDecide {D} G = (old new : D) (limits : Limits) (meaning_on : TestData → Meaning) (checked : Checked) → (found : FindsMeaning G old new limits meaning_on checked) →
    (d e : TestData) → d.limit ≡ limits.bytes → e.limit ≡ limits.bytes → Agrees found.given checked.seen d → Agrees found.given checked.seen e → meaning_on e ≡ meaning_on d

-- it is the meaning on the data of the call: the bytes that the source gave, and behind them whatever it has left
abbrev pub FindsDataOfCall : {D : Type 0} (G : Ghosts D) → Type 0
FindsDataOfCall {D} G = (old new : D) (limits : Limits) (meaning_on : TestData → Meaning) (checked : Checked) → (found : FindsMeaning G old new limits meaning_on checked) →
    (left : List ℕ) → Finds checked (meaning_on (data_of_call found.given left checked.seen limits.bytes))

-- for a source whose bytes are known, of which no read failed, it is the meaning on just these bytes
abbrev pub FindsKnownBytes : {D : Type 0} (G : Ghosts D) → Type 0
FindsKnownBytes {D} G = (old new : D) (limits : Limits) (meaning_on : TestData → Meaning) (checked : Checked) → FindsMeaning G old new limits meaning_on checked → G.seen old ≡ Going → checked.seen ≡ G.seen new → checked.seen ≢ Broken →
    (bytes : List ℕ) → G.left old ≡ Some bytes → Finds checked (meaning_on (record { bytes = bytes; broken = false; limit = limits.bytes }))
