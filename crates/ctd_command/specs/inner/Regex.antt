-- REGEX: a match at the start of the window.
-- Used only by the proofs of this crate.
use Rattle.std.specs.Prelude.{ℕ, List, length}
use Rattle.ctd_command.specs.State.{Act, ◌>>=◌, return}
use Rattle.ctd_command.specs.Regex.{leading_match}

-- how many they are
abbrev pub match_len : List ℕ → Act ℕ
match_len literal = do
  bytes ← leading_match literal
  return (length bytes)
