use Rattle.ctd_lint_report.proofs.Common.{drop, list_any, may_lack, ◌≡◌}
use Rattle.ctd_lint_report.proofs.line.some_may_lack.Given as goal

abbrev pub invariant-loop-part : goal.invariant-loop-part
invariant-loop-part l = list_any may_lack (drop l.part-index l.parts) ≡ list_any may_lack l.parts
