use Rattle.ctd_lint_tool.proofs.Common.{Err, Leaves, ap, before_after, breaks_off, on_err, refl, subst, usage_report, whole}
use Rattle.ctd_lint_tool.specs.declared.command_line.LintFault.TheVariants as faults
use Rattle.ctd_lint_tool.proofs.usage.memory_status.Goals as goal

pub returns-in-Ok : goal.returns-in-Ok
returns-in-Ok g c = whole (usage_report faults.Memory) refl (rw (c.as_bytes.ensures.value) at c.in-Ok.ensures.written)

pub returns-in-Err : goal.returns-in-Err
returns-in-Err g c = breaks_off _ _ (usage_report faults.Memory) c.in-Err.field-0 (λ is. c.in-Err.ensures.no_memory (ap (λ fault. Err fault) is))
    (subst (λ text. Leaves (before_after g.O.Sink c.args.out.now c.write_report.new.out) (before_after g.E.Sink c.args.err.now c.write_report.new.err) (on_err text) (Err c.in-Err.field-0)) c.as_bytes.ensures.value c.in-Err.ensures.written)
