use Rattle.ctd_lint_report.proofs.Common.{drop, some_unconditional, ◌≡◌}
use Rattle.ctd_lint_report.proofs.traps.some_unconditional.Given as goal

abbrev pub invariant-loop-trap : goal.invariant-loop-trap
invariant-loop-trap l = some_unconditional (drop l.trap-index l.traps) ≡ some_unconditional l.traps
