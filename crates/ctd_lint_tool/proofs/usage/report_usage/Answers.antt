use Rattle.ctd_lint_tool.specs.declared.command_line.LintFault.TheVariants as faults
use Rattle.ctd_lint_tool.proofs.Common.{ap, before_after, on_err, on_out, refl}
use Rattle.ctd_lint_tool.proofs.UsageWritten.{usage_written}
use Rattle.ctd_lint_tool.proofs.usage.report_usage.Goals as goal

pub returns-in-UnknownKind : goal.returns-in-UnknownKind
returns-in-UnknownKind g c = record {
  written = usage_written (before_after g.O.Sink c.args.out.now c.report_unknown_kind.new.out) (before_after g.E.Sink c.args.err.now c.report_unknown_kind.new.err) c.report_unknown_kind.result c.args.fault.now (faults.UnknownKind _) _ c.in-UnknownKind.is refl c.report_unknown_kind.ensures.written;
}

pub returns-in-Help : goal.returns-in-Help
returns-in-Help g c = record {
  written = usage_written (before_after g.O.Sink c.args.out.now c.write_report.new.out) (before_after g.E.Sink c.args.err.now c.write_report.new.err) c.write_report.result c.args.fault.now faults.Help _ c.in-Help.is (ap (λ t. on_out t 0) c.as_bytes.ensures.value) c.write_report.ensures.written;
}

pub returns-in-Version : goal.returns-in-Version
returns-in-Version g c = record {
  written = usage_written (before_after g.O.Sink c.args.out.now c.write_report-in-Version.new.out) (before_after g.E.Sink c.args.err.now c.write_report-in-Version.new.err) c.write_report-in-Version.result c.args.fault.now faults.Version _ c.in-Version.is (ap (λ t. on_out t 0) c.as_bytes-in-Version.ensures.value) c.write_report-in-Version.ensures.written;
}

pub returns-in-Words : goal.returns-in-Words
returns-in-Words g c = record {
  written = usage_written (before_after g.O.Sink c.args.out.now c.write_report-in-Words.new.out) (before_after g.E.Sink c.args.err.now c.write_report-in-Words.new.err) c.write_report-in-Words.result c.args.fault.now faults.Words _ c.in-Words.is (ap on_err c.as_bytes-in-Words.ensures.value) c.write_report-in-Words.ensures.written;
}

pub returns-in-BadPreset : goal.returns-in-BadPreset
returns-in-BadPreset g c = record {
  written = usage_written (before_after g.O.Sink c.args.out.now c.write_report-in-BadPreset.new.out) (before_after g.E.Sink c.args.err.now c.write_report-in-BadPreset.new.err) c.write_report-in-BadPreset.result c.args.fault.now faults.BadPreset _ c.in-BadPreset.is (ap on_err c.as_bytes-in-BadPreset.ensures.value) c.write_report-in-BadPreset.ensures.written;
}

pub returns-in-Memory : goal.returns-in-Memory
returns-in-Memory g c = record {
  written = usage_written (before_after g.O.Sink c.args.out.now c.write_report-in-Memory.new.out) (before_after g.E.Sink c.args.err.now c.write_report-in-Memory.new.err) c.write_report-in-Memory.result c.args.fault.now faults.Memory _ c.in-Memory.is (ap on_err c.as_bytes-in-Memory.ensures.value) c.write_report-in-Memory.ensures.written;
}
