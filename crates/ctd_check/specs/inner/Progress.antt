-- How far a command got whose step is paid, and the trees of the commands in which commands stand, by what they take.
use Rattle.ctd_program.specs.Tree
use Rattle.ctd_check.specs.declared.command.Progress.TheVariants as progress
use Rattle.std.specs.Prelude.{◌≡◌, ℕ, ◌+◌, max, Result}
use Rattle.ctd_token.specs.declared.text.Place.{Place}
use Rattle.ctd_program.specs.declared.tree.Choice.{Choice, out-Choice}
use Rattle.ctd_program.specs.declared.tree.Loop.{Loop, out-Loop}
use Rattle.ctd_program.specs.Tree.{CommandTree}
use Rattle.ctd_program.specs.calls.Blocks.{list_blocks}
use Rattle.ctd_program.specs.inner.View.{boxed_separator}
use Rattle.ctd_program.specs.calls.View.{boxed_target, command_list, guard_tree, test_tree}
use Rattle.ctd_command.specs.declared.failure.CommandFailure.{CommandFailure}
use Rattle.ctd_check.specs.declared.command.Progress.{Progress}

-- IF at a place, by what it takes
abbrev pub if_at : Place → Choice → CommandTree
if_at place parts = Tree.choice place (test_tree (out-Choice parts).condition.value) (command_list (out-Choice parts).then_do) (command_list (out-Choice parts).else_do)

-- how many blocks are open at most inside an IF, by what it takes
abbrev pub if_blocks : Choice → ℕ
if_blocks parts = 1 + max (list_blocks (command_list (out-Choice parts).then_do)) (list_blocks (command_list (out-Choice parts).else_do))

-- a loop at a place, by what it takes
abbrev pub loop_at : Place → Loop → CommandTree
loop_at place parts = Tree.loop place (guard_tree (out-Loop parts).guard) (boxed_target (out-Loop parts).counter) (boxed_separator (out-Loop parts).between) (command_list (out-Loop parts).body)

-- if the command was done, its answer is so
abbrev pub IfDone : Progress → (Result (Unit {0}) CommandFailure → Type 0) → Type 0
IfDone (progress.Done done) P = P done
IfDone (progress.If parts) P = Unit {0}
IfDone (progress.Loop parts) P = Unit {0}

-- this holds, unless the command was done
abbrev pub UnlessDone : Progress → Type 0 → Type 0
UnlessDone (progress.Done done) P = Unit {0}
UnlessDone (progress.If parts) P = P
UnlessDone (progress.Loop parts) P = P

-- a command at a place takes what is handed on, unless it was done
abbrev pub IsMadeOf : CommandTree → Place → Progress → Type 0
IsMadeOf c place (progress.Done done) = Unit {0}
IsMadeOf c place (progress.If parts) = c ≡ if_at place parts.now
IsMadeOf c place (progress.Loop parts) = c ≡ loop_at place parts.now
