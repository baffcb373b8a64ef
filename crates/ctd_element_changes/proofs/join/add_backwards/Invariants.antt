use Rattle.ctd_element_changes.specs.calls.Joins.{IsPartOf}
use Rattle.ctd_element_changes.proofs.join.add_backwards.Given as goal

abbrev pub invariant-loop-i : goal.invariant-loop-i
invariant-loop-i l = IsPartOf l.initial.after.items l.facts → IsPartOf l.after.items l.facts
