-- Sources that read bytes in memory.
use Rattle.std.specs.Prelude.{◌≡◌, ◌≢◌, ℕ, List, Some}
use Rattle.ctd_source.specs.declared.source.Source.{Ghosts}
use Rattle.ctd_source.specs.declared.source.Seen.TheVariants.{Going, Broken}

-- the source has all of these bytes left, and no read of it ever fails
pub record HoldsBytes {S : Type 0} (G : Ghosts S) (bytes : List ℕ) (source : S) : Type 0 where
  pub going : G.seen source ≡ Going
  pub left : G.left source ≡ Some bytes
  pub never_broken : (s : S) → G.seen s ≢ Broken
