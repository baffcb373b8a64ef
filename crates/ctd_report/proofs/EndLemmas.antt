-- Laws of what a program ends with.
use Rattle.std.proofs.Common.{◌≡◌, ◌≢◌, ℕ, Result, Ok, Err, refl, subst}
use Rattle.ctd_report.specs.declared.sink.Sink as sinks
use Rattle.ctd_report.specs.declared.written.ToolFault.{ToolFault}
use Rattle.ctd_report.specs.declared.written.ToolFault.TheVariants.{Memory, Write}
use Rattle.ctd_report.specs.Report.{Report}
use Rattle.ctd_report.specs.Written.{BeforeAfter, WritesOneOf, EndsWithReport, whole, broken_off}
use Rattle.ctd_report.specs.calls.Written.{Leaves}

-- what ends in one of some reports ends in one of more
pub EndsWithReport-weaker : {O E : Type 0} {S : sinks.Ghosts O} {T : sinks.Ghosts E} (out : BeforeAfter O S) (err : BeforeAfter E T) (IsReport IsMore : Report → Type 0) (status : ℕ)
    → ((report : Report) → IsReport report → IsMore report) → EndsWithReport out err IsReport status → EndsWithReport out err IsMore status
EndsWithReport-weaker out err IsReport IsMore status more (whole report is all) = whole report (more report is) all
EndsWithReport-weaker out err IsReport IsMore status more (broken_off report is part two) = broken_off report (more report is) part two

-- what leaves one of some reports, with its status, ends so
pub WritesOneOf-EndsWithReport : {O E : Type 0} {S : sinks.Ghosts O} {T : sinks.Ghosts E} (out : BeforeAfter O S) (err : BeforeAfter E T) (IsReport : Report → Type 0) (status : ℕ)
    → WritesOneOf out err IsReport (Ok status) → EndsWithReport out err IsReport status
WritesOneOf-EndsWithReport out err IsReport status h = whole h.0 h.1 h.2

-- where a stream failed, the status is 2
pub FailsMidway-EndsWithReport : {O E : Type 0} {S : sinks.Ghosts O} {T : sinks.Ghosts E} (out : BeforeAfter O S) (err : BeforeAfter E T) (IsReport : Report → Type 0)
    → WritesOneOf out err IsReport (Err Write) → EndsWithReport out err IsReport 2
FailsMidway-EndsWithReport out err IsReport h = broken_off h.0 h.1 h.2 refl

-- a report that was not written whole, where memory did not run out, broke off
pub breaks_off : {O E : Type 0} {S : sinks.Ghosts O} {T : sinks.Ghosts E} (out : BeforeAfter O S) (err : BeforeAfter E T) (report : Report) (fault : ToolFault)
    → fault ≢ Memory → Leaves out err report (Err fault) → EndsWithReport out err (λ r. r ≡ report) 2
breaks_off out err report Write other h = broken_off report refl h refl
breaks_off out err report Memory other h = absurd (other refl)

-- after `Memory` nothing was written
pub Memory-untouched : {O E : Type 0} {S : sinks.Ghosts O} {T : sinks.Ghosts E} (out : BeforeAfter O S) (err : BeforeAfter E T) (IsReport : Report → Type 0) (answer : Result ℕ ToolFault)
    → answer ≡ Err Memory → WritesOneOf out err IsReport answer → (out.new ≡ out.old) × (err.new ≡ err.old)
Memory-untouched out err IsReport answer is h = subst (WritesOneOf out err IsReport) is h
