use Rattle.ctd_lint_report.proofs.Common.{drop, is_ignored, ◌≡◌}
use Rattle.ctd_lint_report.proofs.kind.is_ignored.Given as goal

abbrev pub invariant-loop-left_out : goal.invariant-loop-left_out
invariant-loop-left_out l = is_ignored (drop l.left_out-index l.ignored) l.name ≡ is_ignored l.ignored l.name
