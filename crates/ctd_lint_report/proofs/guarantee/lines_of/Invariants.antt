use Rattle.ctd_lint_report.proofs.Common.{drop, flat_map, guarantee_entry, ◌++◌, ◌≡◌}
use Rattle.ctd_lint_report.proofs.guarantee.lines_of.Given as goal

abbrev pub invariant-loop-line : goal.invariant-loop-line
invariant-loop-line l = l.text.items ++ flat_map (guarantee_entry l.form l.file l.names l.place) (drop l.line-index l.lines) ≡ flat_map (guarantee_entry l.form l.file l.names l.place) l.lines
