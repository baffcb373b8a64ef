use Rattle.ctd_element_changes.specs.calls.Changes.{GivesElement}
use Rattle.ctd_element_changes.proofs.element.facts_with_element.Given as goal

abbrev pub invariant-loop-fact : goal.invariant-loop-fact
invariant-loop-fact l = GivesElement l.state l.target l.limits l.after.items
