-- What cutting the text of a program gives.
use Rattle.std.specs.Prelude.{◌≡◌, ◌≤◌, ℕ, List, length, Option, Some}
use Rattle.ctd_token.specs.declared.limits.TheConstants.{PROGRAM_LIMIT}
use Rattle.ctd_token.specs.declared.text.Place.{Place}
use Rattle.ctd_token.specs.declared.fault.LoadKind.{LoadKind}
use Rattle.ctd_token.specs.Cut.{Faults, place_at}

-- the text is not too long, and its first token with a fault has this one, at this place
pub record HasFault (program : List ℕ) (kind : LoadKind) (place : Option Place) : Type 0 where
  pub short : length program ≤ PROGRAM_LIMIT
  pub offset : ℕ
  pub first : Faults 0 program kind offset
  pub place_is : place ≡ Some (place_at program offset)
