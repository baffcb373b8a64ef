-- A reader as a source.
-- Used only by per-call contracts and laws.
use Rattle.std.specs.Prelude.{◌≡◌, ◌+◌, ◌^◌, ◌<◌, ◌≤◌, ℕ, List, Result, Ok, IsErr, IfOk}
use Rattle.ctd_source.specs.declared.source.Failed.{Failed}
use Rattle.ctd_source.specs.declared.source.Seen.TheVariants.{Going}
use Rattle.ctd_source.specs.declared.from_read.FromRead.{FromRead}

-- the reader was read just once, and its answer is passed on; a count past 64 bits is a failure too
pub record ReadsOnce {R : Type 0} (reads : R → Result ℕ Failed → List ℕ → R → Type 0) (given : ℕ) (old : R) (result : Result ℕ Failed) (buf : List ℕ) (new : R) : Type 0 where
  pub answer : Result ℕ Failed
  pub read : reads old answer buf new
  pub passed_on : IfOk answer (λ count. given + count < 2 ^ 64 → result ≡ Ok count)
  pub past : IfOk answer (λ count. 2 ^ 64 ≤ given + count → IsErr result)
  pub failed : IsErr answer → IsErr result

-- a source that has given nothing yet
abbrev pub new_source : {R : Type 0} → R → FromRead R
new_source reader = record { reader = reader; given = 0; seen = Going }
