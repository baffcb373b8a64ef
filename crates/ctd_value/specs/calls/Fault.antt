-- Why there is no value; running out of memory is no such reason.
-- Used only by per-call contracts and laws.
use Rattle.ctd_value.specs.declared.fault.EvalFault.TheVariants as evals
use Rattle.ctd_value.specs.declared.fault.TestFault.TheVariants as tests
use Rattle.std.specs.Prelude.{◌≡◌, Result, Ok, Err}
use Rattle.ctd_outcome.specs.declared.reason.Fault.{Fault}
use Rattle.ctd_outcome.specs.declared.reason.Fault.TheVariants.{Undefined, WrongType, Overflow, DivisionByZero, Exponent, Count, Shape, Read}
use Rattle.ctd_value.specs.declared.fault.EvalFault.{EvalFault}
use Rattle.ctd_value.specs.declared.fault.TestFault.{TestFault}
use Rattle.ctd_value.specs.Fault.{fault_of_look}

-- the fault that a call means; nothing is meant where memory ran out, for which a fault stands that no value has
abbrev pub meant_by : EvalFault → Fault
meant_by evals.Undefined = Undefined
meant_by evals.WrongType = WrongType
meant_by evals.Overflow = Overflow
meant_by evals.DivisionByZero = DivisionByZero
meant_by evals.Exponent = Exponent
meant_by evals.Count = Count
meant_by evals.Shape = Shape
meant_by evals.Memory = Read

-- the same for tests
abbrev pub test_meant : TestFault → Fault
test_meant (tests.Eval fault) = meant_by fault
test_meant (tests.Look fault) = fault_of_look fault

-- What a call answers is what is meant, unless memory ran out.
abbrev pub Gives : {X : Type 0} → Result X EvalFault → Result X Fault → Type 0
Gives (Ok x) meant = meant ≡ Ok x
Gives (Err evals.Memory) meant = Unit {0}
Gives (Err fault) meant = meant ≡ Err (meant_by fault)

-- the same for tests
abbrev pub Answers : {X : Type 0} → Result X TestFault → Result X Fault → Type 0
Answers (Ok x) meant = meant ≡ Ok x
Answers (Err (tests.Eval evals.Memory)) meant = Unit {0}
Answers (Err fault) meant = meant ≡ Err (test_meant fault)
