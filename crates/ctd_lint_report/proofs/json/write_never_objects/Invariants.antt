use Rattle.ctd_lint_report.proofs.Common.{drop, flat_map, never_object, ◌++◌, ◌≡◌}
use Rattle.ctd_lint_report.proofs.json.write_never_objects.Given as goal

abbrev pub invariant-loop-note : goal.invariant-loop-note
invariant-loop-note l = l.text.items ++ flat_map (never_object l.file) (drop l.note-index l.notes) ≡ l.initial.text.items ++ flat_map (never_object l.file) l.notes
