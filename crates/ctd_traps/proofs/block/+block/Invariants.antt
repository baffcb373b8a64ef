use Rattle.ctd_traps.proofs.Common.{all_commands, command_trees, drop, trees_in}
use Rattle.ctd_traps.proofs.Additions.{Leads}
use Rattle.ctd_traps.proofs.block.+block.Given as goal

abbrev pub invariant-list_block-loop-i : goal.invariant-list_block-loop-i
invariant-list_block-loop-i l = Leads (trees_in l.initial.found) (all_commands (command_trees l.commands)) (trees_in l.found) (all_commands (command_trees (drop l.i l.commands)))
