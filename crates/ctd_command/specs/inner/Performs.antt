-- What each method of a run ensures.
use Rattle.std.specs.Prelude.{◌≡◌, true, ℤ, int_le, Result, Ok, Err}
use Rattle.ctd_source.specs.declared.source.Source.{Ghosts}
use Rattle.ctd_source.specs.TestData.{TestData}
use Rattle.ctd_program.specs.Tree.{ExprTree}
use Rattle.ctd_value.specs.Val.{number_of}
use Rattle.ctd_command.specs.declared.machine.Run.{Run}
use Rattle.ctd_outcome.specs.declared.reason.Fault.{Fault}
use Rattle.ctd_command.specs.declared.failure.CommandFailure.{CommandFailure}
use Rattle.ctd_command.specs.declared.failure.Failure.TheVariants.{Rejected, Stopped, Memory}
use Rattle.ctd_command.specs.State.{State, Act, evaluate}
use Rattle.ctd_command.specs.calls.Performs.{Does, Performs}

-- a call that looks at no data and leaves all as it is did this, whatever the data and the state
abbrev pub AlwaysDoes : {A : Type 0} → Result A CommandFailure → Act A → Type 0
AlwaysDoes r act = (d : TestData) (s : State) → Does r s (act d s)

-- a call that looks at no data answered this
abbrev pub Tells : {A : Type 0} → Result A CommandFailure → Result A Fault → Type 0
Tells (Ok x) meant = meant ≡ Ok x
Tells (Err (Rejected reason)) meant = ⊥
Tells (Err (Stopped fault)) meant = meant ≡ Err fault
Tells (Err Memory) meant = Unit {0}

module _ {R : Type 0} {G : Ghosts R} where
  -- this expression is a number, and the value is not below it
  pub record IsAtLeast (r : Run R G) (value : ℤ) (low : ExprTree) : Type 0 where
    pub least : ℤ
    pub low_is : Performs r r (Ok least) (evaluate (number_of low))
    pub above : int_le least value ≡ true

  -- this expression is a number, and the value is not above it
  pub record IsAtMost (r : Run R G) (value : ℤ) (high : ExprTree) : Type 0 where
    pub most : ℤ
    pub high_is : Performs r r (Ok most) (evaluate (number_of high))
    pub below : int_le value most ≡ true
