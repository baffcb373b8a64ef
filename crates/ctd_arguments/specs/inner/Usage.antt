-- Which fault the words have.
-- Used only by the proofs of this crate.
use Rattle.std.specs.Prelude.{◌≡◌, ℕ, Bool, List, Option, None, Some, codes, option_and_then, if◌then◌else◌}
use Rattle.std.specs.Str.{bytes_eq}
use Rattle.clap.specs.Words.{Row, Text, matches_of}
use Rattle.ctd_program.specs.declared.mode.Mode.{Mode}
use Rattle.ctd_program.specs.declared.mode.Mode.TheVariants.{Exact, BlanksOk}
use Rattle.ctd_arguments.specs.CommandLine.{checker}
use Rattle.ctd_arguments.specs.Usage.{IsStepLimitOf, IsTaken}

-- clap takes the words, and finds these values in them
abbrev pub IsFoundIn : List Text → List Row → Type 0
IsFoundIn words rows = IsTaken words × (rows ≡ matches_of checker words)

-- a text is given, and is no number of steps
abbrev pub HasNoStepLimit : Option Text → Type 0
HasNoStepLimit given = (steps : ℕ) → ¬ (IsStepLimitOf given steps)

-- the file that a name stands for, where `-` is standard input
abbrev pub file_of : Option Text → Option Text
file_of = option_and_then (λ name. if bytes_eq name (codes "-") then None else Some name)

-- whether blanks may differ
abbrev pub mode_by : Bool → Mode
mode_by blanks_ok = if blanks_ok then BlanksOk else Exact
