use Rattle.ctd_lint_report.proofs.Common.{drop, ◌≡◌}
use Rattle.ctd_lint_report.specs.inner.Told.{is_among}
use Rattle.ctd_lint_report.proofs.told.is_among.Given as goal

abbrev pub invariant-loop-one : goal.invariant-loop-one
invariant-loop-one l = is_among (drop l.one-index l.told) l.trap ≡ is_among l.told l.trap
