use Rattle.test_syntax.proofs.tests.tree_text.+expr_text.Given as goal

abbrev pub decreases-write_pair : goal.decreases-write_pair
decreases-write_pair l = l.depth

abbrev pub decreases-write_operand : goal.decreases-write_operand
decreases-write_operand l = l.depth

abbrev pub decreases-write_indexed : goal.decreases-write_indexed
decreases-write_indexed l = l.depth

abbrev pub decreases-write_expr : goal.decreases-write_expr
decreases-write_expr l = l.depth
