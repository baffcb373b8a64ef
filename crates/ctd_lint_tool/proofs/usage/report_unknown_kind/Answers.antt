use Rattle.ctd_lint_tool.proofs.Common.{Leaves, before_after, on_err, subst, ◌∙◌}
use Rattle.ctd_lint_tool.proofs.usage.report_unknown_kind.Goals as goal

pub returns : goal.returns
returns g c = record {
  written = subst (λ text. Leaves (before_after g.O.Sink c.args.out.now c.write_report.new.out) (before_after g.E.Sink c.args.err.now c.write_report.new.err) (on_err text) c.write_report.result)
      (c.as_slice.ensures.value ∙ c.in_ok-text.ensures) c.write_report.ensures.written;
}
