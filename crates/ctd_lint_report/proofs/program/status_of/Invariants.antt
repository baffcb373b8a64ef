use Rattle.ctd_lint_report.proofs.Common.{drop, findings_status, kept, ◌≡◌}
use Rattle.ctd_lint_report.proofs.program.status_of.Given as goal

abbrev pub invariant-loop-finding : goal.invariant-loop-finding
invariant-loop-finding l = findings_status (kept l.ignored (drop l.finding-index l.found)) ≡ findings_status (kept l.ignored l.found)
