use Rattle.ctd_element_changes.specs.calls.Joins.{IsPartOf}
use Rattle.ctd_element_changes.proofs.join.without_later.Given as goal

abbrev pub invariant-loop-fact : goal.invariant-loop-fact
invariant-loop-fact l = IsPartOf l.kept.items l.facts
