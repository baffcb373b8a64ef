use Rattle.ctd_lint_report.proofs.Common.{drop, flat_map, part_entry, ◌++◌, ◌≡◌}
use Rattle.ctd_lint_report.proofs.guarantee.write_part.Given as goal

abbrev pub invariant-loop-group : goal.invariant-loop-group
invariant-loop-group l = l.text.items ++ flat_map (part_entry l.form l.file l.names l.in_end) (drop l.group-index l.groups) ≡ l.initial.text.items ++ flat_map (part_entry l.form l.file l.names l.in_end) l.groups
