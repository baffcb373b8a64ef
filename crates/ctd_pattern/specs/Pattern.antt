-- What a literal of REGEX means as a pattern, and what it matches at the start of a window.
use Rattle.std.specs.Prelude.{◌≡◌, ◌⊎◌, ◌<◌, ℕ, zero, suc, false, List, Option, None, Some, IsSome, IfSome, IsUtf8, option_map, option_and_then}
use Rattle.std.specs.Str.{chars}
use Rattle.regex.specs.Patterns.{Re, Config, default_config, find, span}
use Rattle.regex_syntax.specs.Grammar.{read}

-- the options of a pattern: the defaults of `regex` over bytes
abbrev pub bytes_config : Config
bytes_config = record default_config { utf8 = false }

-- the pattern that the grammar of `regex` reads in the characters of the literal
abbrev pub written_pattern : List ℕ → Option Re
written_pattern literal = option_map (λ found. found.0.value) (read bytes_config (chars literal))

-- the literal is text in which the grammar reads a pattern
abbrev pub IsPattern : List ℕ → Type 0
IsPattern literal = IsUtf8 literal × IsSome (written_pattern literal)

-- the literal is no pattern, or one that nests deeper than the options allow
abbrev pub IsNoPattern : List ℕ → Type 0
IsNoPattern literal = (read bytes_config (chars literal) ≡ None)
    ⊎ IfSome (read bytes_config (chars literal)) (λ found. bytes_config.nest_limit < found.0.depth)

-- the end of a span that starts at 0
abbrev pub end_from_start : ℕ × ℕ → Option ℕ
end_from_start (zero, end) = Some end
end_from_start (suc start, end) = None

-- how many bytes of the window a pattern's first match takes, where it starts with the window
abbrev pub length_of_first : Re → List ℕ → Option ℕ
length_of_first pattern window = option_and_then end_from_start (option_map span (find pattern window 0))

-- how many bytes of the window a literal matches, at its start; none where it does not match there or is no pattern
abbrev pub length_at_start : List ℕ → List ℕ → Option ℕ
length_at_start literal window = option_and_then (λ pattern. length_of_first pattern window) (written_pattern literal)
