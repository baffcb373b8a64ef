-- Variables that get values, as what they mean for a run.
use Rattle.std.proofs.Common.{◌≡◌, true, false, refl, ap, sym, Result, Ok, Err}
use Rattle.std.specs.Prelude.{⊤}
use Rattle.std.specs.Result.{IsErr, IsErrAnd}
use Rattle.ctd_source.specs.declared.source.Source.{Ghosts}
use Rattle.ctd_source.specs.TestData.{TestData}
use Rattle.ctd_source.proofs.AdvanceLemmas.{advances_so, advances_nowhere}
use Rattle.ctd_program.specs.Tree.{ExprTree, VarTree}
use Rattle.ctd_store.specs.declared.value.Value.{Value}
use Rattle.ctd_store.specs.Store.{Bindings, Key, assign}
use Rattle.ctd_value.specs.declared.fault.EvalFault.{EvalFault}
use Rattle.ctd_outcome.specs.declared.reason.Fault.{Fault}
use Rattle.ctd_value.specs.Fault.{◌>>=◌}
use Rattle.ctd_value.specs.calls.Fault.{Gives}
use Rattle.ctd_value.specs.calls.Assignments.{with_variable, with_expression}
use Rattle.ctd_value.specs.Val.{val, key}
use Rattle.ctd_command.specs.declared.machine.Run.{Run}
use Rattle.ctd_command.specs.declared.failure.CommandFailure.{CommandFailure}
use Rattle.ctd_command.specs.declared.failure.Failure.TheVariants.{Rejected, Stopped, Memory}
use Rattle.ctd_command.specs.State.{State, Effect, done, proceed, lift}
use Rattle.ctd_command.specs.Commands.{set_to, give_value}
use Rattle.ctd_command.specs.calls.Failures.{failure_of}
use Rattle.ctd_command.specs.calls.Performs.{Does, IsSound, state, Performs}
use Rattle.ctd_command.specs.inner.Performs.{Tells}
use Rattle.ctd_command.proofs.Acts.{answers_as, performs_as}
use Rattle.ctd_command.proofs.Telling.{tells_fault}

-- the state with other variables
abbrev with_store : State → Bindings → State
with_store s h = record { offset = s.offset; store = h; mode = s.mode }

-- the variables become what is meant, or there is a fault
abbrev become : Result Bindings Fault → State → Effect ⊤
become meant s = proceed (lift meant s) (λ h t. done tt (with_store t h))

by_key : (r : Result Key Fault) (value : Value) (s : State)
    → become (r >>= λ k. Ok (assign s.store k value)) s ≡ proceed (lift r s) (λ k t. done tt (with_store t (assign t.store k value)))
by_key (Ok k) value s = refl
by_key (Err e) value s = refl

sets_variable : (v : VarTree) (value : Value) (d : TestData) (s : State) → become (with_variable v value s.store) s ≡ set_to v value d s
sets_variable v value d s = by_key (key v s.store) value s

by_value : (r : Result Value Fault) (v : VarTree) (d : TestData) (s : State)
    → become (r >>= λ value. with_variable v value s.store) s ≡ proceed (lift r s) (λ value t. set_to v value d t)
by_value (Ok value) v d s = sets_variable v value d s
by_value (Err e) v d s = refl

sets_expression : (v : VarTree) (e : ExprTree) (d : TestData) (s : State) → become (with_expression v e s.store) s ≡ give_value (v, e) d s
sets_expression v e d s = by_value (val e s.store) v d s

fails : (failure : CommandFailure) (meant : Result Bindings Fault) (s : State) (h : Bindings) → Tells {A = Bindings} (Err failure) meant → Does {A = ⊤} (Err failure) (with_store s h) (become meant s)
fails (Rejected reason) meant s h is = absurd is
fails (Stopped fault) meant s h is = ap (λ m. proceed (lift m s) (λ g t. done tt (with_store t g))) is
fails Memory meant s h is = tt

module _ {R : Type 0} {G : Ghosts R} where
  -- the same run with other variables
  abbrev pub with_variables : Run R G → Bindings → Run R G
  with_variables a h = record { alloc = a.alloc; cursor = a.cursor; store = h; mode = a.mode }

  becoming : (a : Run R G) (h : Bindings) (meant : Bindings → Result Bindings Fault) → IsSound a → meant a.store ≡ Ok h → Performs {A = ⊤} a (with_variables a h) (Ok tt) (λ d s. become (meant s.store) s)
  becoming a h meant sound is = record {
    sound = sound;
    goes = advances_so (advances_nowhere a.cursor) (λ d _ _. ap (λ m. become m (state a)) is);
  }

  failing : (a : Run R G) (h : Bindings) (fault : EvalFault) (q : Result ⊤ CommandFailure) (meant : Bindings → Result Bindings Fault) → IsErr q × IsErrAnd q (λ e. e ≡ failure_of fault) → Gives {X = Bindings} (Err fault) (meant a.store) → Performs {A = ⊤} a (with_variables a h) q (λ d s. become (meant s.store) s)
  failing a h fault (Ok x) meant same gives = let e : true ≡ false = sym same.0 in cc
  failing a h fault (Err e) meant same gives = answers_as (ap Err same.1) (record {
    sound = tt;
    goes = advances_so (advances_nowhere a.cursor) (λ d _ _. fails (failure_of fault) (meant a.store) (state a) h (tells_fault fault (meant a.store) gives));
  })

  -- a variable got a value
  pub variable_set : (a : Run R G) (h : Bindings) (v : VarTree) (value : Value) → IsSound a → with_variable v value a.store ≡ Ok h → Performs {A = ⊤} a (with_variables a h) (Ok tt) (set_to v value)
  variable_set a h v value sound is = performs_as (sets_variable v value) (becoming a h (with_variable v value) sound is)

  -- or had a fault, which `?` gives
  pub variable_not_set : (a : Run R G) (h : Bindings) (v : VarTree) (value : Value) (fault : EvalFault) (q : Result ⊤ CommandFailure) → IsErr q × IsErrAnd q (λ e. e ≡ failure_of fault) → Gives {X = Bindings} (Err fault) (with_variable v value a.store) → Performs {A = ⊤} a (with_variables a h) q (set_to v value)
  variable_not_set a h v value fault q same gives = performs_as (sets_variable v value) (failing a h fault q (with_variable v value) same gives)

  -- an assignment was done
  pub expression_set : (a : Run R G) (h : Bindings) (v : VarTree) (e : ExprTree) → IsSound a → with_expression v e a.store ≡ Ok h → Performs {A = ⊤} a (with_variables a h) (Ok tt) (give_value (v, e))
  expression_set a h v e sound is = performs_as (sets_expression v e) (becoming a h (with_expression v e) sound is)

  -- or had a fault
  pub expression_not_set : (a : Run R G) (h : Bindings) (v : VarTree) (e : ExprTree) (fault : EvalFault) (q : Result ⊤ CommandFailure) → IsErr q × IsErrAnd q (λ e. e ≡ failure_of fault) → Gives {X = Bindings} (Err fault) (with_expression v e a.store) → Performs {A = ⊤} a (with_variables a h) q (give_value (v, e))
  expression_not_set a h v e fault q same gives = performs_as (sets_expression v e) (failing a h fault q (with_expression v e) same gives)
