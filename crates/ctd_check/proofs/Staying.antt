-- A turn of a loop passes nothing.
use Rattle.std.proofs.Common.{◌≡◌, ℕ, Result, Ok, Err, Option, None, Some, refl, ◌∙◌}
use Rattle.ctd_source.specs.TestData.{TestData}
use Rattle.ctd_program.specs.Tree.{VarTree}
use Rattle.ctd_store.specs.declared.value.Value.{Value}
use Rattle.ctd_value.specs.Val.{key}
use Rattle.ctd_value.specs.Truth.{truth}
use Rattle.ctd_outcome.specs.declared.reason.Fault.{Fault}
use Rattle.ctd_command.specs.State.{State, Effect, done, rejected, faulty, proceed, lift}
use Rattle.ctd_command.specs.Commands.{keep}
use Rattle.ctd_check.specs.Loops.{Loop, Guard, times, while_true, goes_on, take_turn, run_turn}

-- how many bytes are consumed then
abbrev pub ends_at : {A : Type 0} → Effect A → ℕ
ends_at (done answer after) = after.offset
ends_at (rejected reason consumed) = consumed
ends_at (faulty fault consumed) = consumed

lift_stays : {A : Type 0} (r : Result A Fault) (s : State) → ends_at (lift r s) ≡ s.offset
lift_stays (Ok x) s = refl
lift_stays (Err fault) s = refl

then_stays : {A B : Type 0} (e : Effect A) (next : A → State → Effect B) (n : ℕ) → ends_at e ≡ n → ((x : A) (t : State) → t.offset ≡ n → ends_at (next x t) ≡ n) → ends_at (proceed e next) ≡ n
then_stays (done x t) next n here after = after x t here
then_stays (rejected reason consumed) next n here after = here
then_stays (faulty fault consumed) next n here after = here

keep_stays : (v : Option VarTree) (value : Value) (d : TestData) (s : State) → ends_at (keep v value d s) ≡ s.offset
keep_stays None value d s = refl
keep_stays (Some v) value d s = then_stays (lift (key v s.store) s) _ s.offset (lift_stays (key v s.store) s) (λ _ _ here. here)

goes_on_stays : (guard : Guard) (k : ℕ) (d : TestData) (s : State) → ends_at (goes_on guard k d s) ≡ s.offset
goes_on_stays (times turns) k d s = refl
goes_on_stays (while_true t) k d s = lift_stays (truth t s.store d s.offset) s

take_turn_stays : (loop : Loop) (k : ℕ) (d : TestData) (s : State) → ends_at (take_turn loop k d s) ≡ s.offset
take_turn_stays loop k d s = then_stays (keep loop.counter _ d s) _ s.offset (keep_stays loop.counter _ d s) (λ _ t here. goes_on_stays loop.guard k d t ∙ here)

-- it ends where it began
pub turn_stays : (loop : Loop) (k : ℕ) (d : TestData) (s : State) → ends_at (run_turn loop k d s) ≡ s.offset
turn_stays loop k d s = then_stays (take_turn loop k d s) _ s.offset (take_turn_stays loop k d s) (λ _ _ here. here)
