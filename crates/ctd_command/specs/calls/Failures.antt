-- Why a command is not done, for each fault of a value, a test or a look.
use Rattle.ctd_value.specs.declared.fault.EvalFault.TheVariants as evals
use Rattle.ctd_value.specs.declared.fault.TestFault.TheVariants as tests
use Rattle.ctd_value.specs.declared.fault.EvalFault.{EvalFault}
use Rattle.ctd_value.specs.declared.fault.TestFault.{TestFault}
use Rattle.ctd_value.specs.Fault.{fault_of_look}
use Rattle.ctd_value.specs.calls.Fault.{meant_by}
use Rattle.ctd_command.specs.declared.failure.CommandFailure.{CommandFailure}
use Rattle.ctd_command.specs.declared.failure.Failure.TheVariants.{Stopped, Memory}

-- how a command fails when an expression does
abbrev pub failure_of : EvalFault → CommandFailure
failure_of evals.Memory = Memory
failure_of fault = Stopped (meant_by fault)

-- how a command fails when a test does
abbrev pub test_failure : TestFault → CommandFailure
test_failure (tests.Eval fault) = failure_of fault
test_failure (tests.Look fault) = Stopped (fault_of_look fault)
