-- How deep the tokens of a program nest, counted before the grammar is asked.
-- Used only by the proofs of this crate.
use Rattle.std.specs.Prelude.{ℕ, ◌+◌, List, [], ◌∷◌, Option, Some, None, option_map, nat_lt, if◌then◌else◌}
use Rattle.ctd_token.specs.declared.limits.TheConstants.{NESTING_LIMIT}
use Rattle.ctd_syntax.specs.Lexeme.{Lexeme}
use Rattle.ctd_syntax.specs.Nesting.{change_of, step, weight}

-- the same in one walk, for the contracts of private functions alone: how many tokens stand before the first after which the weight passes
-- the limit
abbrev pub too_deep : ℕ × List ℕ → List Lexeme → Option ℕ
too_deep counters [] = None
too_deep counters (t ∷ ts) =
    if nat_lt NESTING_LIMIT (weight (step (change_of t) counters)) then Some 0
    else option_map (λ n. n + 1) (too_deep (step (change_of t) counters) ts)
