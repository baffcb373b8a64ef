use Rattle.ctd_lint_report.proofs.Common.{None, drop, parts_relations, ◌++◌, ◌≡◌}
use Rattle.ctd_lint_report.proofs.part.parts_relations.Given as goal

abbrev pub invariant-loop-part : goal.invariant-loop-part
invariant-loop-part l = l.relations.items ++ parts_relations l.form l.names l.before (drop l.part-index l.parts) ≡ parts_relations l.form l.names None l.parts
