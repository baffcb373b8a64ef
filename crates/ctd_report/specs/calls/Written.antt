-- What writing a report leaves on the two streams.
-- Used only by per-call contracts and laws.
use Rattle.std.specs.Prelude.{◌≡◌, ℕ, Result, Ok, Err}
use Rattle.ctd_report.specs.declared.sink.Sink.{Ghosts}
use Rattle.ctd_report.specs.declared.written.ToolFault.{ToolFault}
use Rattle.ctd_report.specs.declared.written.ToolFault.TheVariants.{Memory, Write}
use Rattle.ctd_report.specs.Report.{Report}
use Rattle.ctd_report.specs.Written.{BeforeAfter, WritesAll, FailsMidway}

-- what a call leaves that writes this report: all of it, a part where a stream failed, and nothing where memory ran out
abbrev pub Leaves : {O E : Type 0} {G : Ghosts O} {H : Ghosts E} → BeforeAfter O G → BeforeAfter E H → Report → Result ℕ ToolFault → Type 0
Leaves out err report (Ok status) = WritesAll out err report status
Leaves out err report (Err Write) = FailsMidway out err report
Leaves out err report (Err Memory) = (out.new ≡ out.old) × (err.new ≡ err.old)
