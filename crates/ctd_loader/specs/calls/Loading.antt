-- What loading a program gives.
-- Used only by per-call contracts and laws.
use Rattle.std.specs.Prelude.{◌≢◌, ◌≤◌, ◌+◌, ℕ, List, length, Result, Ok, Err}
use Rattle.ctd_source.specs.declared.source.Source.{Ghosts}
use Rattle.ctd_source.specs.SourceReads.{GaveBytes}
use Rattle.ctd_token.specs.declared.limits.TheConstants.{PROGRAM_LIMIT}
use Rattle.ctd_token.specs.declared.fault.LoadFault.{LoadFault}
use Rattle.ctd_token.specs.declared.fault.LoadKind.TheVariants.{Memory}
use Rattle.ctd_program.specs.Tree.{CommandList}
use Rattle.ctd_loader.specs.Loading.{MayFail, Loads}

-- an answer is a program that may be given, or a fault that may be; where memory ran out, nothing is said
abbrev pub GivesProgramOrFault : {P : Type 0} → (MayGive : CommandList → Type 0) → (MayFailWith : LoadFault → Type 0) → (P → CommandList) → Result P LoadFault → Type 0
GivesProgramOrFault MayGive MayFailWith tree_of (Ok plan) = MayGive (tree_of plan)
GivesProgramOrFault MayGive MayFailWith tree_of (Err f) = f.kind ≢ Memory → MayFailWith f

-- in a call a reader gave these bytes, no more than one past the limit, and the answer is what loading them gives
pub record LoadsFrom {P R : Type 0} (tree_of : P → CommandList) (G : Ghosts R) (old new : R) (result : Result P LoadFault) : Type 0 where
  pub bytes : List ℕ
  pub gave : GaveBytes G old new bytes
  pub short : length bytes ≤ PROGRAM_LIMIT + 1
  pub answer : GivesProgramOrFault (Loads bytes (G.seen new)) (MayFail bytes (G.seen new)) tree_of result
