use Rattle.ctd_lint_tool.proofs.Common.{AreRemarks, Lints, drop, false, stand, ◌≡◌}
use Rattle.ctd_lint_tool.proofs.files.lint_all.Given as goal

abbrev pub invariant-loop-name : goal.invariant-loop-name
invariant-loop-name g l = record {
  out_works : g.O.Sink.has_failed l.out ≡ false;
  err_works : g.E.Sink.has_failed l.err ≡ false;
  linted : Lints (record { opens = g.P.Programs.opens_program; asks = g.P.Programs.asks_for; closes = g.P.Programs.closes_program; source = g.P.Program.Source; out = g.O.Sink; err = g.E.Sink; remarks = AreRemarks }) l.setup l.names (stand l.initial.programs l.initial.out l.initial.err) (drop l.name-index l.names) l.status (stand l.programs l.out l.err);
}
