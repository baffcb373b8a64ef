use Rattle.ctd_lint_report.proofs.Common.{drop}
use Rattle.ctd_lint_report.proofs.Telling.{TellTheSame}
use Rattle.ctd_lint_report.proofs.told.told_by.Given as goal

abbrev pub invariant-loop-finding : goal.invariant-loop-finding
invariant-loop-finding l = TellTheSame l.ignored l.told.items (drop l.finding-index l.found) l.found
