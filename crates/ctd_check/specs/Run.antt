-- The run of a program as a list of tasks, one step for each.
use Rattle.ctd_program.specs.Tree
use Rattle.std.specs.Prelude.{ℕ, zero, suc, ◌-◌, ⊤, List, [], ◌∷◌, ◌++◌}
use Rattle.ctd_source.specs.TestData.{TestData, spot_at}
use Rattle.ctd_program.specs.declared.preset.Preset.{Preset}
use Rattle.ctd_token.specs.declared.text.Place.{Place}
use Rattle.ctd_program.specs.Tree.{CommandTree, CommandList}
use Rattle.ctd_store.specs.Store.{initial}
use Rattle.ctd_program.specs.declared.mode.Mode.{Mode}
use Rattle.ctd_outcome.specs.declared.reason.Fault.TheVariants.{StepLimit}
use Rattle.ctd_command.specs.State.{State, Effect, done, rejected, faulty, Act, ◌>>=◌, return}
use Rattle.ctd_command.specs.Commands.{int, string, assert, set, unset_all}
use Rattle.ctd_command.specs.Blanks.{space, newline, end, first_skip}
use Rattle.ctd_command.specs.Regex.{regex}
use Rattle.ctd_outcome.specs.declared.outcome.Site.{Site}
use Rattle.ctd_outcome.specs.declared.outcome.Site.TheVariants.{Start, At, Finish}
use Rattle.ctd_outcome.specs.declared.outcome.Outcome.{Outcome}
use Rattle.ctd_outcome.specs.declared.outcome.Outcome.TheVariants.{Accepted, Rejected, Stopped}
use Rattle.ctd_check.specs.Loops.{Task, start, turn, finish, tasks, run_turn, repeat, choice}

-- a simple command leaves no tasks
abbrev pub simple : Act ⊤ → Act (List Task)
simple m = m >>= (λ _. return [])

-- a command: the place of its word, and what it does, with the tasks that it leaves to be done first
abbrev pub command : CommandTree → Place × Act (List Task)
command (Tree.space place) = (place, simple space)
command (Tree.newline place) = (place, simple newline)
command (Tree.eof place) = (place, simple end)
command (Tree.int place low high target) = (place, simple (int low high target))
command (Tree.string place e) = (place, simple (string e))
command (Tree.regex place literal target) = (place, simple (regex literal.bytes target))
command (Tree.assert place t) = (place, simple (assert t))
command (Tree.set place assignments) = (place, simple (set assignments))
command (Tree.unset place names) = (place, simple (unset_all names))
command (Tree.loop place guard counter sep body) = (place, repeat place guard counter sep body)
command (Tree.choice place t then_do else_do) = (place, choice t then_do else_do)

-- where in the program a task stands
abbrev pub site_of : Task → Site
site_of (start c) = At (command c).0
site_of (turn loop k) = At loop.place
site_of finish = Finish

-- a task whose step is paid, and the tasks that it leaves to be done first
abbrev pub perform : Task → Act (List Task)
perform (start c) = (command c).1
perform (turn loop k) = run_turn loop k
perform finish = simple end

-- how a run ended, with the steps that are left: all tasks are done and a state is left, or it stopped early with an outcome, once so many bytes are consumed
pub data RunResult : Type 0 where
  all_done : (after : State) (left : ℕ) → RunResult
  stopped : (outcome : Outcome) (consumed left : ℕ) → RunResult

-- what was begun at an offset: the run goes on with what it left, or it ends
abbrev pub resume : {A : Type 0} → TestData → Site → ℕ → ℕ → Effect A → (A → State → RunResult) → RunResult
resume d site p n (done x after) rest = rest x after
resume d site p n (rejected reason consumed) rest = stopped (Rejected (spot_at d.bytes p) site reason) consumed n
resume d site p n (faulty fault consumed) rest = stopped (Stopped (spot_at d.bytes p) site fault) consumed n

-- the tasks in order, with n steps left: each pays its step first
abbrev pub run : TestData → ℕ → List Task → State → RunResult
run d n [] s = all_done s n
run d zero (task ∷ rest) s = stopped (Stopped (spot_at d.bytes s.offset) (site_of task) StepLimit) s.offset 0
run d (suc n) (task ∷ rest) s = resume d (site_of task) s.offset n (perform task d s) (λ more t. run d n (more ++ rest) t)

-- what a check answers: how it ended, the steps paid, and the bytes consumed
pub record Meaning : Type 0 where
  pub outcome : Outcome
  pub steps : ℕ
  pub consumed : ℕ

-- the steps paid are those that are not left
abbrev pub with_steps : ℕ → RunResult → Meaning
with_steps steps (all_done after left) = record { outcome = Accepted; steps = steps - left; consumed = after.offset }
with_steps steps (stopped outcome consumed left) = record { outcome = outcome; steps = steps - left; consumed = consumed }

-- the first byte, with the presets pinned
abbrev pub at_start : Mode → List Preset → State
at_start mode presets = record { offset = 0; store = initial presets; mode = mode }

-- all that a program does: what stands before the first command, which costs no step, and then its tasks
abbrev pub run_from : TestData → ℕ → List Task → State → RunResult
run_from d n ts s = resume d Start s.offset n (first_skip d s) (λ _ t. run d n ts t)

-- what a program means for data: its commands and then the end of the data
abbrev pub meaning : Mode → CommandList → List Preset → TestData → ℕ → Meaning
meaning mode program presets d steps = with_steps steps (run_from d steps (tasks program ++ finish ∷ []) (at_start mode presets))
