use Rattle.std.proofs.Common.{refl}
use Rattle.ctd_program.specs.calls.View.{command_trees}
use Rattle.ctd_report.specs.Report.{check_report, load_report}
use Rattle.ctd_report.proofs.WrittenLemmas.{Leaves-WritesOneOf}
use Rattle.ctd_tool.proofs.HeadlineLemmas.{loads_few, gave_none, reports_meaning, reports_fault}
use Rattle.ctd_tool.proofs.tool.run_tool.Goals as goal

pub returns-in-Ok-check : goal.returns-in-Ok-check
returns-in-Ok-check g c =
    let s = c.args.setup.now in
    let e = c.in-Ok-check.ensures in
    record {
      written = Leaves-WritesOneOf _ _ _ (check_report s.quiet c.in-Ok-check.checked.outcome) c.write_outcome.result
          (reports_meaning command_trees g.P.Source g.D.Source s c.args.program.now _ c.args.testdata.now _ c.in-Ok.plan c.in-Ok-check.checked c.in-Ok.ensures.loads e.meaning e.ahead e.within e.seen)
          c.write_outcome.ensures.written;
      reads_program = loads_few command_trees g.P.Source c.args.program.now _ _ c.load.ensures.loads;
      reads_testdata = c.check.ensures.reads;
    }

pub returns : goal.returns
returns g c = record {
  written = (refl, refl);
  reads_program = loads_few command_trees g.P.Source c.args.program.now _ _ c.load.ensures.loads;
  reads_testdata = c.check.ensures.reads;
}

pub returns-in_default : goal.returns-in_default
returns-in_default g c = record {
  written = Leaves-WritesOneOf _ _ _ (load_report c.in-Err.fault) c.write_load_fault.result
      (reports_fault command_trees g.P.Source g.D.Source c.args.setup.now c.args.program.now _ c.args.testdata.now c.in-Err.fault c.in-Err.ensures.loads c.in_default.not-Memory)
      c.write_load_fault.ensures.written;
  reads_program = loads_few command_trees g.P.Source c.args.program.now _ _ c.load.ensures.loads;
  reads_testdata = gave_none g.D.Source _ _;
}

pub returns-in-Memory : goal.returns-in-Memory
returns-in-Memory g c = record {
  written = (refl, refl);
  reads_program = loads_few command_trees g.P.Source c.args.program.now _ _ c.load.ensures.loads;
  reads_testdata = gave_none g.D.Source _ _;
}
