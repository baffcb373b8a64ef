use Rattle.ctd_lint_report.proofs.Common.{drop, some_shape, ◌≡◌}
use Rattle.ctd_lint_report.proofs.traps.some_shape.Given as goal

abbrev pub invariant-loop-trap : goal.invariant-loop-trap
invariant-loop-trap l = some_shape (drop l.trap-index l.traps) ≡ some_shape l.traps
