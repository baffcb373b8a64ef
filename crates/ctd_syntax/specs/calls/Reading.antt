-- What reading the text of a program gives.
-- Used only by per-call contracts and laws.
use Rattle.std.specs.Prelude.{◌≡◌, ℕ, List, Option, None}
use Rattle.ctd_token.specs.declared.text.Place.{Place}
use Rattle.ctd_token.specs.declared.fault.LoadKind.{LoadKind}
use Rattle.ctd_token.specs.declared.fault.LoadKind.TheVariants.{Memory}
use Rattle.ctd_syntax.specs.Reading.{IsRefused}

-- a text has this fault, or memory ran out, which has no place
abbrev pub IsFault : List ℕ → LoadKind → Option Place → Type 0
IsFault program Memory place = place ≡ None
IsFault program kind place = IsRefused program kind place
