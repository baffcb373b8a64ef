use Rattle.ctd_element_changes.specs.calls.Changes.{GivesName}
use Rattle.ctd_element_changes.proofs.assign.facts_with_name.Given as goal

abbrev pub invariant-loop-fact : goal.invariant-loop-fact
invariant-loop-fact l = GivesName l.state l.name l.limits l.after.items
