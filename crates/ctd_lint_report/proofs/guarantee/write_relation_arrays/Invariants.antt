use Rattle.ctd_lint_report.proofs.Common.{[], drop, relation_arrays, ◌++◌, ◌≡◌}
use Rattle.ctd_lint_report.proofs.guarantee.write_relation_arrays.Given as goal

abbrev pub invariant-loop-relation : goal.invariant-loop-relation
invariant-loop-relation l = l.text.items ++ relation_arrays l.comma (drop l.relation-index l.relations) ≡ l.initial.text.items ++ relation_arrays [] l.relations
