-- A writer as a sink.
use Rattle.std.specs.Prelude.{◌≡◌, ◌<◌, ℕ, List, Result, Ok, IsErr, IfOk, false}
use Rattle.ctd_source.specs.declared.source.Failed.{Failed}
use Rattle.ctd_report.specs.declared.sink.ToWrite.{ToWrite}

-- the writer was asked just once, and its answer is passed on; that no byte was written is a failure too
pub record WritesOnce {W : Type 0} (writes : W → List ℕ → Result ℕ Failed → W → Type 0) (old : W) (bytes : List ℕ) (result : Result ℕ Failed) (new : W) : Type 0 where
  pub answer : Result ℕ Failed
  pub wrote : writes old bytes answer new
  pub passed_on : IfOk answer (λ count. 0 < count → result ≡ Ok count)
  pub none : IfOk answer (λ count. count ≡ 0 → IsErr result)
  pub failed : IsErr answer → IsErr result

-- a sink that has not failed
abbrev pub new_sink : {W : Type 0} → W → ToWrite W
new_sink writer = record { writer = writer; has_failed = false }
