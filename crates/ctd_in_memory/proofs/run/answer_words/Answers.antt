use Rattle.std.proofs.Common.{◌≡◌, Err, inl, inr, rules}
use Rattle.ctd_report.specs.declared.written.ToolFault.TheVariants.{Memory, Write}
use Rattle.ctd_report.specs.Written.{before_after}
use Rattle.ctd_report.proofs.EndLemmas.{EndsWithReport-weaker, WritesOneOf-EndsWithReport, FailsMidway-EndsWithReport, Memory-untouched}
use Rattle.ctd_in_memory.proofs.SourceLemmas.{report_in_memory}
use Rattle.ctd_in_memory.proofs.run.answer_words.Goals as goal

pub returns-in-Ok-run_tool : goal.returns-in-Ok-run_tool
returns-in-Ok-run_tool g c =
    let s = c.in-Ok.setup in
    EndsWithReport-weaker _ _ _ _ _
    (λ report is. inl (s, c.in-Ok.ensures.setup, report_in_memory s c.args.program.now c.args.testdata.now _ _ report c.new-program.ensures c.new-testdata.ensures is))
    (WritesOneOf-EndsWithReport _ _ _ _ (rw c.in-Ok-run_tool.is at c.run_tool.ensures.written))

pub returns-in-Err : goal.returns-in-Err
returns-in-Err g c = EndsWithReport-weaker _ _ _ _ _ (λ report is. inr (inl (c.in-Err.fault, c.in-Err.ensures.fault, is))) c.usage_status.ensures

pub returns-in-Err-Memory : goal.returns-in-Err-Memory
returns-in-Err-Memory g c =
    let fault_is : c.run_tool.result ≡ Err Memory = search rules in
    let untouched = Memory-untouched (before_after g.O.Sink c.args.out.now c.run_tool.new.out) (before_after g.E.Sink c.args.err.now c.run_tool.new.err) _ _ fault_is c.run_tool.ensures.written in
    EndsWithReport-weaker _ _ _ _ _ (λ report is. inr (inr is)) (rw (untouched.0, untouched.1) at c.usage_status-in-Err-Memory.ensures)

pub returns : goal.returns
returns g c =
    let s = c.in-Ok.setup in
    let fault_is : c.run_tool.result ≡ Err Write = search rules in
    EndsWithReport-weaker _ _ _ _ _
    (λ report is. inl (s, c.in-Ok.ensures.setup, report_in_memory s c.args.program.now c.args.testdata.now _ _ report c.new-program.ensures c.new-testdata.ensures is))
    (FailsMidway-EndsWithReport _ _ _ (rw fault_is at c.run_tool.ensures.written))
