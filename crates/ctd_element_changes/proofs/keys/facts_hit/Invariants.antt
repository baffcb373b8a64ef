use Rattle.ctd_element_changes.specs.calls.Tests.{IsHit}
use Rattle.ctd_element_changes.proofs.keys.facts_hit.Given as goal

abbrev pub invariant-loop-fact : goal.invariant-loop-fact
invariant-loop-fact l = IsHit l.state l.limits l.array l.after.items
