use Rattle.test_syntax.proofs.tests.tree_text.+command_text.Given as goal

abbrev pub decreases-write_commands : goal.decreases-write_commands
decreases-write_commands l = l.depth

abbrev pub decreases-write_command : goal.decreases-write_command
decreases-write_command l = l.depth

abbrev pub decreases-write_loop : goal.decreases-write_loop
decreases-write_loop l = l.depth

abbrev pub decreases-write_choice : goal.decreases-write_choice
decreases-write_choice l = l.depth
