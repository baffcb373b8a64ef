-- Laws of what writing a report leaves.
use Rattle.std.proofs.Common.{ℕ, Result, Ok, Err}
use Rattle.ctd_report.specs.declared.sink.Sink.{Ghosts}
use Rattle.ctd_report.specs.declared.written.ToolFault.{ToolFault}
use Rattle.ctd_report.specs.declared.written.ToolFault.TheVariants.{Memory, Write}
use Rattle.ctd_report.specs.Report.{Report}
use Rattle.ctd_report.specs.Written.{BeforeAfter, WritesOneOf}
use Rattle.ctd_report.specs.calls.Written.{Leaves}

-- what leaves a report leaves one of some, if it is one of them
pub Leaves-WritesOneOf : {O E : Type 0} {S : Ghosts O} {T : Ghosts E} (out : BeforeAfter O S) (err : BeforeAfter E T) (IsReport : Report → Type 0) (report : Report)
    (result : Result ℕ ToolFault) → IsReport report → Leaves out err report result → WritesOneOf out err IsReport result
Leaves-WritesOneOf out err IsReport report (Ok status) is h = (report, is, h)
Leaves-WritesOneOf out err IsReport report (Err Write) is h = (report, is, h)
Leaves-WritesOneOf out err IsReport report (Err Memory) is h = h

-- what leaves one of some reports leaves one of more
pub WritesOneOf-weaker : {O E : Type 0} {S : Ghosts O} {T : Ghosts E} (out : BeforeAfter O S) (err : BeforeAfter E T) (IsReport IsMore : Report → Type 0) (result : Result ℕ ToolFault)
    → ((report : Report) → IsReport report → IsMore report) → WritesOneOf out err IsReport result → WritesOneOf out err IsMore result
WritesOneOf-weaker out err IsReport IsMore (Ok status) more h = (h.0, more h.0 h.1, h.2)
WritesOneOf-weaker out err IsReport IsMore (Err Write) more h = (h.0, more h.0 h.1, h.2)
WritesOneOf-weaker out err IsReport IsMore (Err Memory) more h = h
