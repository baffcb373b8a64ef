-- Which data a reader may have had, by what it gave.
use Rattle.std.specs.Prelude.{◌≡◌, ℕ, true, false, List, length, take}
use Rattle.ctd_source.specs.declared.source.Seen.{Seen}
use Rattle.ctd_source.specs.declared.source.Seen.TheVariants.{Going, Ended, Broken}
use Rattle.ctd_source.specs.TestData.{TestData}

-- data agree with the bytes taken and what was seen of the end: they are these bytes with that end, or begin with them
abbrev pub Agrees : List ℕ → Seen → TestData → Type 0
Agrees taken Going d = take (length taken) d.bytes ≡ taken
Agrees taken Ended d = (d.bytes ≡ taken) × (d.broken ≡ false)
Agrees taken Broken d = (d.bytes ≡ taken) × (d.broken ≡ true)
