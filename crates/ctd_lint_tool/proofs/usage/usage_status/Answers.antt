use Rattle.ctd_lint_tool.proofs.Common.{EndsWithReport-weaker, Err, Memory, Write, before_after, broken_off, inl, inr, refl, rules, usage_report, whole, ◌≡◌}
use Rattle.ctd_lint_tool.proofs.UsageWritten.{breaks, untouched}
use Rattle.ctd_lint_tool.proofs.usage.usage_status.Goals as goal

pub returns-in-Ok : goal.returns-in-Ok
returns-in-Ok g c = whole (usage_report c.args.fault.now) (inl refl) c.in-Ok.ensures.written

pub returns-in-Err-Write : goal.returns-in-Err-Write
returns-in-Err-Write g c =
    let fault_is : c.report_usage.result ≡ Err Write = search rules in
    broken_off (usage_report c.args.fault.now) (inl refl)
    (breaks (before_after g.O.Sink c.args.out.now c.report_usage.new.out) (before_after g.E.Sink c.args.err.now c.report_usage.new.err) _ _ fault_is c.report_usage.ensures.written)
    refl

pub returns-in-Err-Memory : goal.returns-in-Err-Memory
returns-in-Err-Memory g c =
    let fault_is : c.report_usage.result ≡ Err Memory = search rules in
    let same = untouched (before_after g.O.Sink c.args.out.now c.report_usage.new.out) (before_after g.E.Sink c.args.err.now c.report_usage.new.err) _ _ fault_is c.report_usage.ensures.written in
    EndsWithReport-weaker _ _ _ _ _ (λ report is. inr is) (rw (same.0, same.1) at c.memory_status.ensures)
