-- REGEX: a match at the start of the window.
use Rattle.ctd_store.specs.declared.value.Value.TheVariants as values
use Rattle.std.specs.Prelude.{ℕ, nat_eq, ⊤, List, length, take, Option, Some, None, if◌then◌else◌}
use Rattle.ctd_source.specs.declared.limits.TheConstants.{WINDOW}
use Rattle.ctd_program.specs.Tree.{VarTree}
use Rattle.ctd_pattern.specs.Pattern.{length_at_start}
use Rattle.ctd_outcome.specs.declared.reason.Reason.TheVariants.{RegexMismatch}
use Rattle.ctd_outcome.specs.declared.reason.Fault.TheVariants.{MatchTooLong}
use Rattle.ctd_command.specs.State.{Act, ◌>>=◌, return, reject, stop, pass, see_window}
use Rattle.ctd_command.specs.Commands.{keep}

-- a match of so many bytes, of which the window has more; no match rejects the data
abbrev pub shorter_match : Option ℕ → Act ℕ
shorter_match None = reject RegexMismatch
shorter_match (Some n) = if nat_eq n WINDOW then stop MatchTooLong else return n

-- the bytes that the pattern of a literal matches at the start of the window
abbrev pub leading_match : List ℕ → Act (List ℕ)
leading_match literal = do
  window ← see_window
  n ← shorter_match (length_at_start literal window)
  return (take n window)

-- they are passed, and the target gets them
abbrev pub regex : List ℕ → Option VarTree → Act ⊤
regex literal target = do
  bytes ← leading_match literal
  _ ← pass (length bytes)
  keep target (values.Text bytes)
