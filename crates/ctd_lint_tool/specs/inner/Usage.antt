-- What clap finds in the words.
-- Used only by the proofs of this crate.
use Rattle.std.specs.Prelude.{◌≡◌, List}
use Rattle.clap.specs.Words.{Row, Text}
use Rattle.ctd_lint_tool.specs.calls.CommandLine.{IsTaken, found_in}

-- clap takes the words, and finds these values in them
abbrev pub IsFoundIn : List Text → List Row → Type 0
IsFoundIn words rows = IsTaken words × (rows ≡ found_in words)
