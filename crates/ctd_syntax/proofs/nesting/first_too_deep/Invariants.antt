use Rattle.std.proofs.Common.{◌≡◌, ◌≤◌, ◌+◌, ◌-◌, length, drop}
use Rattle.std.specs.Prelude.{map, option_map}
use Rattle.ctd_syntax.specs.inner.Front.{lexeme}
use Rattle.ctd_token.specs.declared.limits.TheConstants.{NESTING_LIMIT}
use Rattle.ctd_syntax.specs.Nesting.{start, weight}
use Rattle.ctd_syntax.specs.inner.Nesting.{too_deep}
use Rattle.ctd_syntax.proofs.nesting.first_too_deep.Given as goal

abbrev pub invariant-loop-n : goal.invariant-loop-n
invariant-loop-n l = record {
  within : l.n ≤ length l.tokens;
  light : weight l.nesting ≤ NESTING_LIMIT;
  rest : option_map (λ k. l.n + k) (too_deep l.nesting (map lexeme (drop l.n l.tokens))) ≡ too_deep start (map lexeme l.tokens);
}

abbrev pub decreases-loop-n : goal.decreases-loop-n
decreases-loop-n l = length l.tokens - l.n
