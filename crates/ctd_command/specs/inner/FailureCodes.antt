-- The number of each failure.
use Rattle.ctd_outcome.specs.declared.reason.Reason.TheVariants as reasons
use Rattle.ctd_outcome.specs.declared.reason.Fault.TheVariants as faults
use Rattle.ctd_command.specs.declared.failure.Failure.TheVariants as failures
use Rattle.ctd_command.specs.declared.failure.FailureCode.TheVariants as codes
use Rattle.std.specs.Prelude.{◌≡◌, refl}
use Rattle.ctd_command.specs.declared.failure.Failure.{Failure}
use Rattle.ctd_command.specs.declared.failure.FailureCode.{FailureCode}
use Rattle.ctd_command.specs.calls.FailureCodes.{failure_at}

-- the number that stands for a failure
abbrev pub code_of : Failure → FailureCode
code_of (failures.Rejected reasons.ExpectedSpace) = codes.ExpectedSpace
code_of (failures.Rejected reasons.ExpectedNewline) = codes.ExpectedNewline
code_of (failures.Rejected reasons.ExpectedEof) = codes.ExpectedEof
code_of (failures.Rejected reasons.ExpectedInt) = codes.ExpectedInt
code_of (failures.Rejected reasons.LeadingZero) = codes.LeadingZero
code_of (failures.Rejected reasons.MinusZero) = codes.MinusZero
code_of (failures.Rejected reasons.OutOfRange) = codes.OutOfRange
code_of (failures.Rejected reasons.StringMismatch) = codes.StringMismatch
code_of (failures.Rejected reasons.RegexMismatch) = codes.RegexMismatch
code_of (failures.Rejected reasons.AssertFailed) = codes.AssertFailed
code_of (failures.Stopped faults.Undefined) = codes.Undefined
code_of (failures.Stopped faults.WrongType) = codes.WrongType
code_of (failures.Stopped faults.Overflow) = codes.Overflow
code_of (failures.Stopped faults.DivisionByZero) = codes.DivisionByZero
code_of (failures.Stopped faults.Exponent) = codes.Exponent
code_of (failures.Stopped faults.Count) = codes.Count
code_of (failures.Stopped faults.Shape) = codes.Shape
code_of (failures.Stopped faults.StepLimit) = codes.StepLimit
code_of (failures.Stopped faults.MatchTooLong) = codes.MatchTooLong
code_of (failures.Stopped faults.DataTooLong) = codes.DataTooLong
code_of (failures.Stopped faults.Read) = codes.Read
code_of failures.Memory = codes.Memory

-- no two numbers stand for one failure
pub code_again : (code : FailureCode) → code_of (failure_at code) ≡ code
code_again codes.ExpectedSpace = refl
code_again codes.ExpectedNewline = refl
code_again codes.ExpectedEof = refl
code_again codes.ExpectedInt = refl
code_again codes.LeadingZero = refl
code_again codes.MinusZero = refl
code_again codes.OutOfRange = refl
code_again codes.StringMismatch = refl
code_again codes.RegexMismatch = refl
code_again codes.AssertFailed = refl
code_again codes.Undefined = refl
code_again codes.WrongType = refl
code_again codes.Overflow = refl
code_again codes.DivisionByZero = refl
code_again codes.Exponent = refl
code_again codes.Count = refl
code_again codes.Shape = refl
code_again codes.StepLimit = refl
code_again codes.MatchTooLong = refl
code_again codes.DataTooLong = refl
code_again codes.Read = refl
code_again codes.Memory = refl
