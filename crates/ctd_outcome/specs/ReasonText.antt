-- How reasons and faults are written.
use Rattle.std.specs.Prelude.{ℕ, List, codes}
use Rattle.ctd_outcome.specs.declared.reason.Reason.{Reason}
use Rattle.ctd_outcome.specs.declared.reason.Reason.TheVariants as reason
use Rattle.ctd_outcome.specs.declared.reason.Fault.{Fault}
use Rattle.ctd_outcome.specs.declared.reason.Fault.TheVariants as fault

-- why the data do not match
abbrev pub reason_text : Reason → List ℕ
reason_text reason.ExpectedSpace = codes "expected a space"
reason_text reason.ExpectedNewline = codes "expected a newline"
reason_text reason.ExpectedEof = codes "expected end of file"
reason_text reason.ExpectedInt = codes "expected an integer"
reason_text reason.LeadingZero = codes "integer with a leading zero"
reason_text reason.MinusZero = codes "integer with minus zero"
reason_text reason.OutOfRange = codes "value out of range"
reason_text reason.StringMismatch = codes "string does not match"
reason_text reason.RegexMismatch = codes "regular expression does not match"
reason_text reason.AssertFailed = codes "assertion failed"

-- why there is no verdict
abbrev pub fault_text : Fault → List ℕ
fault_text fault.Undefined = codes "variable has no value"
fault_text fault.WrongType = codes "wrong type"
fault_text fault.Overflow = codes "number overflow"
fault_text fault.DivisionByZero = codes "division by zero"
fault_text fault.Exponent = codes "bad exponent"
fault_text fault.Count = codes "bad count"
fault_text fault.Shape = codes "arrays have different indices"
fault_text fault.StepLimit = codes "step limit reached"
fault_text fault.MatchTooLong = codes "match too long"
fault_text fault.DataTooLong = codes "test data too long"
fault_text fault.Read = codes "read failed"
