use Rattle.std.proofs.Common.{◌≤◌, length, ◌+◌, ◌*◌}
use Rattle.std.specs.Prelude.{map}
use Rattle.ctd_program.specs.calls.View.{test_tree}
use Rattle.ctd_syntax.specs.Grammar.{IsTest, IsBoth, IsNegation}
use Rattle.ctd_syntax.specs.inner.Front.{lexeme}
use Rattle.ctd_syntax.specs.inner.TestGrammar.{test_ends}
use Rattle.ctd_syntax.proofs.StayChains.{Partly}
use Rattle.ctd_syntax.proofs.TestLevels.{or_operator, and_operator, either, together}
use Rattle.ctd_syntax.proofs.condition.+condition.Given as goal

abbrev pub decreases-test_before : goal.decreases-test_before
decreases-test_before l = 8 * length l.tokens.now + 6

abbrev pub decreases-test : goal.decreases-test
decreases-test l = 8 * length l.tokens.now + 5

abbrev pub decreases-both : goal.decreases-both
decreases-both l = 8 * length l.tokens.now + 4

abbrev pub decreases-negation : goal.decreases-negation
decreases-negation l = 8 * length l.tokens.now + 3

abbrev pub decreases-simple_test : goal.decreases-simple_test
decreases-simple_test l = 8 * length l.tokens.now + 2

abbrev pub invariant-test-loop-after : goal.invariant-test-loop-after
invariant-test-loop-after l = record {
  partly : Partly IsTest IsBoth (test_ends 1) or_operator either (map lexeme l.fn.tokens) (test_tree l.left.value) (map lexeme l.rest);
  shorter : length l.rest ≤ length l.fn.tokens;
}

abbrev pub decreases-test-loop-after : goal.decreases-test-loop-after
decreases-test-loop-after l = length l.rest

abbrev pub invariant-both-loop-after : goal.invariant-both-loop-after
invariant-both-loop-after l = record {
  partly : Partly IsBoth IsNegation (test_ends 2) and_operator together (map lexeme l.fn.tokens) (test_tree l.left.value) (map lexeme l.rest);
  shorter : length l.rest ≤ length l.fn.tokens;
}

abbrev pub decreases-both-loop-after : goal.decreases-both-loop-after
decreases-both-loop-after l = length l.rest
