-- The run of a program as a list of tasks, one step for each.
-- Used only by the contracts of single calls and laws.
use Rattle.std.specs.Prelude.{◌≡◌}
use Rattle.ctd_token.specs.declared.text.Place.{Place}
use Rattle.ctd_program.specs.Tree.{CommandTree}
use Rattle.ctd_outcome.specs.declared.outcome.Checked.{Checked}
use Rattle.ctd_check.specs.Run.{Meaning, command}

-- the place of a command's word
abbrev pub place_of : CommandTree → Place
place_of c = (command c).0

-- a check found this
pub record Finds (checked : Checked) (m : Meaning) : Type 0 where
  pub outcome : checked.outcome ≡ m.outcome
  pub steps : checked.steps ≡ m.steps
  pub consumed : checked.consumed ≡ m.consumed
