use Rattle.test_syntax.proofs.tests.tree_text.+test_text.Given as goal

abbrev pub decreases-write_tests : goal.decreases-write_tests
decreases-write_tests l = l.depth

abbrev pub decreases-write_test : goal.decreases-write_test
decreases-write_test l = l.depth
