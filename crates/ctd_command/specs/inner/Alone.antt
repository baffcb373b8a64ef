-- What a call ensures that sees the cursor alone.
use Rattle.std.specs.Prelude.{ℕ, Result}
use Rattle.ctd_source.specs.TestData.{TestData}
use Rattle.ctd_store.specs.Store.{Bindings}
use Rattle.ctd_command.specs.declared.failure.CommandFailure.{CommandFailure}
use Rattle.ctd_program.specs.declared.mode.Mode.{Mode}
use Rattle.ctd_command.specs.State.{Act}
use Rattle.ctd_command.specs.calls.Performs.{Does}

-- from offset p to q it did this, whatever the variables and the mode are
abbrev pub DoesAlone : {A : Type 0} → TestData → (p q : ℕ) → Result A CommandFailure → Act A → Type 0
DoesAlone d p q result act = (store : Bindings) (mode : Mode) → Does result (record { offset = q; store = store; mode = mode }) (act d (record { offset = p; store = store; mode = mode }))
