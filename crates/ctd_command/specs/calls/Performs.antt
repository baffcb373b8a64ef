-- What each method of a run ensures.
use Rattle.std.specs.Prelude.{◌≡◌, None, Result, Ok, Err, OnOk}
use Rattle.ctd_source.specs.declared.source.Source.{Ghosts}
use Rattle.ctd_source.specs.calls.SourceReads.{state_of}
use Rattle.ctd_source.specs.calls.Received.{AdvancesSuchThat}
use Rattle.ctd_command.specs.declared.machine.Run.{Run}
use Rattle.ctd_command.specs.declared.failure.CommandFailure.{CommandFailure}
use Rattle.ctd_command.specs.declared.failure.Failure.TheVariants.{Rejected, Stopped, Memory}
use Rattle.ctd_command.specs.State.{State, Effect, Act, done, rejected, faulty}

-- a call that answered this and left this state had this effect; if memory ran out, nothing is said
abbrev pub Does : {A : Type 0} → Result A CommandFailure → State → Effect A → Type 0
Does (Ok x) s e = e ≡ done x s
Does (Err (Rejected reason)) s e = e ≡ rejected reason s.offset
Does (Err (Stopped fault)) s e = e ≡ faulty fault s.offset
Does (Err Memory) s e = Unit {0}

module _ {R : Type 0} {G : Ghosts R} where
  -- where a run is
  abbrev pub state : Run R G → State
  state r = record { offset = (state_of r.cursor).spot.offset; store = r.store; mode = r.mode }

  -- its cursor has no fault
  abbrev pub IsSound : Run R G → Type 0
  IsSound r = (state_of r.cursor).fault ≡ None

  -- for all data that the cursor is consistent with at the end, the call did this, and answered accordingly
  pub record Performs {A : Type 0} (old new : Run R G) (result : Result A CommandFailure) (act : Act A) : Type 0 where
    pub sound : OnOk result (IsSound new)
    pub goes : AdvancesSuchThat old.cursor new.cursor (λ d. Does result (state new) (act d (state old)))
