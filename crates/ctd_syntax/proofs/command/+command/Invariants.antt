use Rattle.std.proofs.Common.{◌≤◌, length, ◌+◌, ◌*◌}
use Rattle.std.specs.Prelude.{map}
use Rattle.ctd_program.specs.calls.View.{command_trees}
use Rattle.ctd_syntax.specs.inner.Front.{lexeme}
use Rattle.ctd_syntax.proofs.StayCommands.{PartCommands}
use Rattle.ctd_syntax.proofs.command.+command.Given as goal

abbrev pub decreases-command : goal.decreases-command
decreases-command l = 8 * length l.tokens.now + 0

abbrev pub decreases-loop_command : goal.decreases-loop_command
decreases-loop_command l = 8 * length l.tokens.now + 2

abbrev pub decreases-if_command : goal.decreases-if_command
decreases-if_command l = 8 * length l.tokens.now + 2

abbrev pub decreases-command_rest : goal.decreases-command_rest
decreases-command_rest l = 8 * length l.tokens.now + 3

abbrev pub decreases-separator_before : goal.decreases-separator_before
decreases-separator_before l = 8 * length l.tokens.now + 2

abbrev pub decreases-block : goal.decreases-block
decreases-block l = 8 * length l.tokens.now + 5

abbrev pub decreases-commands : goal.decreases-commands
decreases-commands l = 8 * length l.tokens.now + 4

abbrev pub decreases-branch_end : goal.decreases-branch_end
decreases-branch_end l = 8 * length l.tokens.now + 2

abbrev pub decreases-branches : goal.decreases-branches
decreases-branches l = 8 * length l.tokens.now + 6

abbrev pub decreases-loop_end : goal.decreases-loop_end
decreases-loop_end l = 8 * length l.tokens.now + 2

abbrev pub invariant-commands-loop-word : goal.invariant-commands-loop-word
invariant-commands-loop-word l = record {
  part : PartCommands (map lexeme l.fn.tokens) (command_trees l.items.items) (map lexeme l.rest);
  shorter : length l.rest ≤ length l.fn.tokens;
}

abbrev pub decreases-commands-loop-word : goal.decreases-commands-loop-word
decreases-commands-loop-word l = length l.rest
