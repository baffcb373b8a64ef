-- How a spot of the data is written.
use Rattle.std.specs.Prelude.{ℕ, List, ◌++◌, codes}
use Rattle.std.specs.Fmt.{decimal}
use Rattle.ctd_source.specs.declared.spot.Spot.{Spot}

-- a spot by its line and its column
abbrev pub spot_text : Spot → List ℕ
spot_text s = codes "line " ++ decimal s.line ++ codes " column " ++ decimal s.column
