-- The data of a check: what a look at them gives, and the spot of each offset.
-- Used only by the proofs of this crate.
use Rattle.std.specs.Prelude.{ℕ, ◌+◌, if◌then◌else◌}
use Rattle.ctd_source.specs.declared.spot.Spot.{Spot}
use Rattle.ctd_source.specs.TestData.{is_newline}

-- the spot after one more byte
abbrev pub spot_after : Spot → ℕ → Spot
spot_after s byte =
    if is_newline byte then record { line = s.line + 1; column = 1; offset = s.offset + 1 }
    else record { line = s.line; column = s.column + 1; offset = s.offset + 1 }
