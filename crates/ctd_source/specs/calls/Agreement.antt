-- Which data a reader may have had, by what it gave.
-- Used only by per-call contracts and laws.
use Rattle.std.specs.Prelude.{ℕ, Bool, true, false, List, [], ◌++◌}
use Rattle.ctd_source.specs.declared.source.Seen.{Seen}
use Rattle.ctd_source.specs.declared.source.Seen.TheVariants.{Going, Ended, Broken}
use Rattle.ctd_source.specs.TestData.{TestData}

-- whether a read failed
abbrev pub is_broken : Seen → Bool
is_broken Going = false
is_broken Ended = false
is_broken Broken = true

-- what a source has left counts only while it goes on
abbrev pub still_to_come : Seen → List ℕ → List ℕ
still_to_come Going left = left
still_to_come Ended left = []
still_to_come Broken left = []

-- the data of a call: the bytes given in it, then those left where the source still goes on
abbrev pub data_of_call : (given left : List ℕ) → (seen : Seen) → (limit : ℕ) → TestData
data_of_call given left seen limit = record { bytes = given ++ still_to_come seen left; broken = is_broken seen; limit = limit }

-- the bytes given so far, as data that end where the source now is
abbrev pub known : (given : List ℕ) → (seen : Seen) → (limit : ℕ) → TestData
known given seen limit = record { bytes = given; broken = is_broken seen; limit = limit }
