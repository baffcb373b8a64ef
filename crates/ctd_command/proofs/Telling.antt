-- Faults of values and tests, as what they mean for a run.
use Rattle.std.proofs.Common.{◌≡◌, ◌<◌, ◌≤◌, ℕ, ◌+◌, Bool, true, false, List, length, take, ap, sym, ◌∙◌, subst, arith, Result, Ok, Err, Some, None}
use Rattle.std.specs.Prelude.{slice_get}
use Rattle.std.specs.Result.{IsErr, IsErrAnd}
use Rattle.ctd_source.specs.declared.source.Source.{Ghosts}
use Rattle.ctd_source.specs.declared.cursor.Cursor.{Cursor}
use Rattle.ctd_source.specs.calls.Consistency.{IsConsistentWith}
use Rattle.ctd_source.specs.calls.SourceReads.{state_of, ReadsOn}
use Rattle.ctd_source.specs.TestData.{TestData, next_byte}
use Rattle.ctd_source.proofs.AdvanceLemmas.{advances_so, advances_nowhere, advances_reading}
use Rattle.ctd_program.specs.Tree.{TestTree}
use Rattle.ctd_store.specs.Store.{Bindings}
use Rattle.ctd_value.specs.declared.fault.EvalFault.{EvalFault}
use Rattle.ctd_value.specs.declared.fault.EvalFault.TheVariants as evals
use Rattle.ctd_value.specs.declared.fault.TestFault.{TestFault}
use Rattle.ctd_value.specs.declared.fault.TestFault.TheVariants as tests
use Rattle.ctd_value.specs.calls.Fault.{Answers, Gives}
use Rattle.ctd_value.specs.Truth.{truth}
use Rattle.ctd_command.specs.declared.failure.CommandFailure.{CommandFailure}
use Rattle.ctd_command.specs.declared.machine.Run.{Run}
use Rattle.ctd_outcome.specs.declared.reason.Fault.{Fault}
use Rattle.ctd_command.specs.State.{State, done, lift, evaluate}
use Rattle.ctd_command.specs.Commands.{answer}
use Rattle.ctd_command.specs.calls.Failures.{test_failure, failure_of}
use Rattle.ctd_command.specs.calls.Performs.{Does, state, IsSound, Performs}
use Rattle.ctd_command.specs.inner.Performs.{Tells}
use Rattle.ctd_command.proofs.Acts.{with_cursor, answers_as, evaluated}
use Rattle.ctd_command.proofs.DigitRuns.{some_held}
use Rattle.ctd_command.proofs.HeldRuns.{first_held, held_next}

does_fault : (fault : TestFault) (meant : Result Bool Fault) (s : State) → Answers {X = Bool} (Err fault) meant → Does {A = Bool} (Err (test_failure fault)) s (lift meant s)
does_fault (tests.Eval evals.Undefined) meant s is = ap (λ m. lift m s) is
does_fault (tests.Eval evals.WrongType) meant s is = ap (λ m. lift m s) is
does_fault (tests.Eval evals.Overflow) meant s is = ap (λ m. lift m s) is
does_fault (tests.Eval evals.DivisionByZero) meant s is = ap (λ m. lift m s) is
does_fault (tests.Eval evals.Exponent) meant s is = ap (λ m. lift m s) is
does_fault (tests.Eval evals.Count) meant s is = ap (λ m. lift m s) is
does_fault (tests.Eval evals.Shape) meant s is = ap (λ m. lift m s) is
does_fault (tests.Eval evals.Memory) meant s is = tt
does_fault (tests.Look fault) meant s is = ap (λ m. lift m s) is

pub tells_fault : {A : Type 0} (fault : EvalFault) (meant : Result A Fault) → Gives {X = A} (Err fault) meant → Tells {A = A} (Err (failure_of fault)) meant
tells_fault evals.Undefined meant is = is
tells_fault evals.WrongType meant is = is
tells_fault evals.Overflow meant is = is
tells_fault evals.DivisionByZero meant is = is
tells_fault evals.Exponent meant is = is
tells_fault evals.Count meant is = is
tells_fault evals.Shape meant is = is
tells_fault evals.Memory meant is = tt

module _ {R : Type 0} {G : Ghosts R} where
  -- what `?` gives where an expression had a fault
  pub unvalued : {A : Type 0} (a : Run R G) (fault : EvalFault) (q : Result A CommandFailure) (f : Bindings → Result A Fault) → IsSound a → IsErr q × IsErrAnd q (λ e. e ≡ failure_of fault) → Gives {X = A} (Err fault) (f a.store) → Performs a a q (evaluate f)
  unvalued a fault (Ok x) f sound is gives = let e : true ≡ false = sym is.0 in cc
  unvalued a fault (Err e) f sound is gives = answers_as (ap Err is.1) (evaluated a (Err (failure_of fault)) f sound (tells_fault fault (f a.store) gives))

  -- a test whose answer no data change
  pub answered_at_once : (a : Run R G) (t : TestTree) (b : Bool) → IsSound a → ((d : TestData) (p : ℕ) → truth t a.store d p ≡ Ok b) → Performs a a (Ok b) (answer t)
  answered_at_once a t b sound known = record { sound = sound; goes = advances_so (advances_nowhere a.cursor) (λ d _ _. ap (λ r. lift r (state a)) (known d (state a).offset)) }

  -- a test whose answer the first byte of a run that is held tells
  pub answered_in_front : (a : Run R G) (t : TestTree) (b : Bool) (byte : ℕ) (run : List ℕ) → IsSound a → slice_get run 0 ≡ Some byte → take (length run) (state_of a.cursor).held ≡ run
      → length run ≤ length (state_of a.cursor).held → (0 < length run → (state_of a.cursor).spot.offset + length run ≤ (state_of a.cursor).limit)
      → ((h : Bindings) (d : TestData) (p : ℕ) → next_byte d p ≡ Ok (Some byte) → truth t h d p ≡ Ok b) → Performs a a (Ok b) (answer t)
  answered_in_front a t b byte run sound first front held within known =
      let some : 0 < length run = some_held run byte first in
      record {
        sound = sound;
        goes = advances_so (advances_nowhere a.cursor) (λ d stand _.
            let next = held_next d (state_of a.cursor) stand.before a.cursor.counted (omega (arith, some, held)) (omega (arith, some, within some)) in
            ap (λ r. lift r (state a)) (known a.store d (state a).offset (next ∙ ap Ok (first_held run (state_of a.cursor).held byte front first))));
      }

  -- a test that was answered
  pub answered : (a : Run R G) (now : Cursor R G) (t : TestTree) (b : Bool) → ReadsOn a.cursor now → now.fault ≡ None → ((d : TestData) → IsConsistentWith d (state_of now) → Answers (Ok b) (truth t a.store d now.spot.offset))
      → Performs a (with_cursor a now) (Ok b) (answer t)
  answered a now t b r sound is = record {
    sound = sound;
    goes = advances_so (advances_reading a.cursor now r) (λ d stand _.
        let P : _ → Type 0 = λ s. lift (truth t a.store d s.offset) (record { offset = s.offset; store = a.store; mode = a.mode }) ≡ done b (state (with_cursor a now)) in
        subst P r.spot (ap (λ m. lift m (state (with_cursor a now))) (is d stand.after)));
  }

  -- one that was not
  pub unanswered : (a : Run R G) (now : Cursor R G) (t : TestTree) (fault : TestFault) → ReadsOn a.cursor now → ((d : TestData) → IsConsistentWith d (state_of now) → Answers {X = Bool} (Err fault) (truth t a.store d now.spot.offset))
      → Performs {A = Bool} a (with_cursor a now) (Err (test_failure fault)) (answer t)
  unanswered a now t fault r is = record {
    sound = tt;
    goes = advances_so (advances_reading a.cursor now r) (λ d stand _.
        let P : _ → Type 0 = λ s. Does {A = Bool} (Err (test_failure fault)) (state (with_cursor a now)) (lift (truth t a.store d s.offset) (record { offset = s.offset; store = a.store; mode = a.mode })) in
        subst P r.spot (does_fault fault (truth t a.store d now.spot.offset) (state (with_cursor a now)) (is d stand.after)));
  }
