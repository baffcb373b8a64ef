use Rattle.std.proofs.Common.{◌≡◌, List, ◌++◌, length}
use Rattle.std.specs.Prelude.{map}
use Rattle.ctd_program.specs.calls.View.{command_trees}
use Rattle.ctd_program.specs.declared.tree.Command.{Command}
use Rattle.ctd_syntax.specs.inner.Front.{lexeme}
use Rattle.ctd_syntax.proofs.StayCommands.{PartCommands}
use Rattle.ctd_syntax.proofs.batches.all_commands.Given as goal

abbrev pub invariant-loop-rest : goal.invariant-loop-rest
invariant-loop-rest l = (cs : List Command) × (l.commands.items ≡ l.initial.commands.items ++ cs) × PartCommands (map lexeme l.tokens) (command_trees cs) (map lexeme l.rest)

abbrev pub decreases-loop-rest : goal.decreases-loop-rest
decreases-loop-rest l = length l.rest
