use Rattle.ctd_traps.proofs.Common.{command_trees, drop}
use Rattle.ctd_traps.specs.inner.Sparing.{SparesEach}
use Rattle.ctd_traps.proofs.spare.+spares.Given as goal

abbrev pub invariant-spares_each-loop-command : goal.invariant-spares_each-loop-command
invariant-spares_each-loop-command l = SparesEach l.name (command_trees (drop l.command-index l.commands)) → SparesEach l.name (command_trees l.commands)
