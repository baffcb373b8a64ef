-- What a built pattern matches is what its literal matches.
use Rattle.std.proofs.Common.{◌≡◌, ◌≤◌, ◌<◌, ℕ, false, List, length, get_or, Option, None, Some, IsSome, IsSomeAnd, option_map, option_and_then, refl, ap}
use Rattle.regex_syntax.specs.Brackets.{Nested}
use Rattle.regex_syntax.specs.Grammar.{Names, group_count}
use Rattle.regex.specs.Patterns.{Re, SameCaptures}
use Rattle.regex.proofs.ForCallers.{span_alike}
use Rattle.ctd_pattern.specs.calls.Pattern.{IsWrittenAs}
use Rattle.ctd_pattern.specs.Pattern.{written_pattern, end_from_start, length_of_first, length_at_start}

-- what the grammar reads under a limit on depth is the written pattern
pub is_written : (found : Option (Nested Re × Names)) (most : ℕ) (a : Re) (names : Names)
    → IsSomeAnd found (λ (re, read). (re.depth ≤ most) × SameCaptures a re.value × (names ≡ read) × (group_count a ≤ length names))
    → IsSomeAnd (option_map (λ read. read.0.value) found) (SameCaptures a)
is_written None most a names h = absurd h
is_written (Some read) most a names h = h.1

pub is_read : (found : Option (Nested Re × Names)) (P : Nested Re × Names → Type 0) → IsSomeAnd found P → IsSome (option_map (λ read. read.0.value) found)
is_read None P h = absurd h
is_read (Some read) P h = refl

by_pattern : (written : Option Re) (pattern : Re) (window : List ℕ) → ((k : ℕ) → get_or window k 0 < 256) → IsSomeAnd written (SameCaptures pattern)
    → length_of_first pattern window ≡ option_and_then (λ p. length_of_first p window) written
by_pattern None pattern window bytes h = absurd h
by_pattern (Some written) pattern window bytes h = ap (option_and_then end_from_start) (span_alike h window bytes false 0)

pub length_as_written : (literal : List ℕ) (pattern : Re) (window : List ℕ) → ((k : ℕ) → get_or window k 0 < 256) → IsWrittenAs literal pattern
    → length_of_first pattern window ≡ length_at_start literal window
length_as_written literal pattern window bytes h = by_pattern (written_pattern literal) pattern window bytes h
