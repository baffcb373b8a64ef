use Rattle.ctd_lint_report.proofs.Common.{drop, is_open, list_any, ◌≡◌}
use Rattle.ctd_lint_report.proofs.traps.some_open.Given as goal

abbrev pub invariant-loop-trap : goal.invariant-loop-trap
invariant-loop-trap l = list_any (λ t. is_open l.ignored t.kind) (drop l.trap-index l.traps) ≡ list_any (λ t. is_open l.ignored t.kind) l.traps
