-- The number of each failure.
use Rattle.ctd_outcome.specs.declared.reason.Reason.TheVariants as reasons
use Rattle.ctd_outcome.specs.declared.reason.Fault.TheVariants as faults
use Rattle.ctd_command.specs.declared.failure.Failure.TheVariants as failures
use Rattle.ctd_command.specs.declared.failure.FailureCode.TheVariants as codes
use Rattle.ctd_command.specs.declared.failure.Failure.{Failure}
use Rattle.ctd_command.specs.declared.failure.FailureCode.{FailureCode}

-- the failure that a number stands for
abbrev pub failure_at : FailureCode → Failure
failure_at codes.ExpectedSpace = failures.Rejected reasons.ExpectedSpace
failure_at codes.ExpectedNewline = failures.Rejected reasons.ExpectedNewline
failure_at codes.ExpectedEof = failures.Rejected reasons.ExpectedEof
failure_at codes.ExpectedInt = failures.Rejected reasons.ExpectedInt
failure_at codes.LeadingZero = failures.Rejected reasons.LeadingZero
failure_at codes.MinusZero = failures.Rejected reasons.MinusZero
failure_at codes.OutOfRange = failures.Rejected reasons.OutOfRange
failure_at codes.StringMismatch = failures.Rejected reasons.StringMismatch
failure_at codes.RegexMismatch = failures.Rejected reasons.RegexMismatch
failure_at codes.AssertFailed = failures.Rejected reasons.AssertFailed
failure_at codes.Undefined = failures.Stopped faults.Undefined
failure_at codes.WrongType = failures.Stopped faults.WrongType
failure_at codes.Overflow = failures.Stopped faults.Overflow
failure_at codes.DivisionByZero = failures.Stopped faults.DivisionByZero
failure_at codes.Exponent = failures.Stopped faults.Exponent
failure_at codes.Count = failures.Stopped faults.Count
failure_at codes.Shape = failures.Stopped faults.Shape
failure_at codes.StepLimit = failures.Stopped faults.StepLimit
failure_at codes.MatchTooLong = failures.Stopped faults.MatchTooLong
failure_at codes.DataTooLong = failures.Stopped faults.DataTooLong
failure_at codes.Read = failures.Stopped faults.Read
failure_at codes.Memory = failures.Memory
