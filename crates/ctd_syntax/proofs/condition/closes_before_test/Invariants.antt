use Rattle.std.proofs.Common.{◌≡◌, ◌≤◌, ◌+◌, ◌-◌, length, drop, option_map}
use Rattle.std.specs.Prelude.{map}
use Rattle.ctd_syntax.specs.inner.Front.{lexeme}
use Rattle.ctd_syntax.specs.inner.TestGrammar.{closes_before_test}
use Rattle.ctd_syntax.proofs.condition.closes_before_test.Given as goal

abbrev pub invariant-loop-closed : goal.invariant-loop-closed
invariant-loop-closed l = record {
  within : l.n ≤ length l.tokens;
  low : l.depth ≤ l.n;
  few : l.closed ≤ l.n;
  same : closes_before_test 0 (map lexeme l.tokens) ≡ option_map (λ k. l.closed + k) (closes_before_test l.depth (map lexeme (drop l.n l.tokens)));
}

abbrev pub decreases-loop-closed : goal.decreases-loop-closed
decreases-loop-closed l = length l.tokens - l.n
