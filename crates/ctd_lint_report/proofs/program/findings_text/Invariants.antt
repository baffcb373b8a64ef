use Rattle.ctd_lint_report.proofs.Common.{drop, findings_lines, kept, ◌++◌, ◌≡◌}
use Rattle.ctd_lint_report.proofs.program.findings_text.Given as goal

abbrev pub invariant-loop-finding : goal.invariant-loop-finding
invariant-loop-finding l = l.text.items ++ findings_lines l.setup.form l.file (kept l.setup.ignored.items (drop l.finding-index l.found)) ≡ findings_lines l.setup.form l.file (kept l.setup.ignored.items l.found)
