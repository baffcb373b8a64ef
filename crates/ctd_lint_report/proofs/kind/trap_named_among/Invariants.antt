use Rattle.ctd_lint_report.proofs.Common.{drop, trap_named_among, ◌≡◌}
use Rattle.ctd_lint_report.proofs.kind.trap_named_among.Given as goal

abbrev pub invariant-loop-kind : goal.invariant-loop-kind
invariant-loop-kind l = trap_named_among (drop l.kind-index l.kinds) l.name ≡ trap_named_among l.kinds l.name
