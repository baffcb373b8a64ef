use Rattle.ctd_element_changes.specs.calls.Joins.{ImpliesAll, IsPartOf}
use Rattle.ctd_element_changes.proofs.join.facts_that_follow.Given as goal

abbrev pub invariant-loop-fact : goal.invariant-loop-fact
invariant-loop-fact l = IsPartOf l.after.items l.candidates × ImpliesAll l.state l.after.items
