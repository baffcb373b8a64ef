use Rattle.std.proofs.Common.{◌≡◌, ◌++◌, drop}
use Rattle.ctd_program.specs.calls.View.{command_trees}
use Rattle.ctd_syntax.specs.inner.PatternLiterals.{literals}
use Rattle.ctd_loader.specs.inner.Literals.{literals_at}
use Rattle.ctd_loader.proofs.literals.+literals.Given as goal

abbrev pub invariant-list_literals-loop-command : goal.invariant-list_literals-loop-command
invariant-list_literals-loop-command l = literals_at l.found.items ++ literals (command_trees (drop l.command-index l.commands)) ≡ literals_at l.initial.found.items ++ literals (command_trees l.commands)
