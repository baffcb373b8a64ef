use Rattle.ctd_lint_report.proofs.Common.{drop, some_element, ◌≡◌}
use Rattle.ctd_lint_report.proofs.traps.some_element.Given as goal

abbrev pub invariant-loop-trap : goal.invariant-loop-trap
invariant-loop-trap l = some_element (drop l.trap-index l.traps) ≡ some_element l.traps
