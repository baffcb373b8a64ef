use Rattle.ctd_lint_report.proofs.Common.{None, chain_text, drop, option_map, ◌++◌, ◌≡◌}
use Rattle.ctd_lint_report.proofs.line.write_chain.Given as goal

abbrev pub invariant-loop-relation : goal.invariant-loop-relation
invariant-loop-relation l = l.text.items ++ chain_text (option_map (λ b. b.now) l.before) (drop l.relation-index l.relations) ≡ l.initial.text.items ++ chain_text None l.relations
