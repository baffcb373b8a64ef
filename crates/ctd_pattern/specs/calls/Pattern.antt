-- What a literal of REGEX means as a pattern, and what it matches at the start of a window.
-- Used only by per-call contracts and laws.
use Rattle.std.specs.Prelude.{ℕ, List, IsSomeAnd}
use Rattle.regex.specs.Patterns.{Re, SameCaptures}
use Rattle.ctd_pattern.specs.Pattern.{written_pattern}

-- the literal is a pattern, and this one matches as it does
abbrev pub IsWrittenAs : List ℕ → Re → Type 0
IsWrittenAs literal pattern = IsSomeAnd (written_pattern literal) (SameCaptures pattern)
