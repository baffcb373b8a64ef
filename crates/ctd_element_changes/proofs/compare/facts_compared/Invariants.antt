use Rattle.ctd_element_changes.specs.calls.Tests.{Compares}
use Rattle.ctd_element_changes.proofs.compare.facts_compared.Given as goal

abbrev pub invariant-loop-fact : goal.invariant-loop-fact
invariant-loop-fact l = Compares l.state l.by l.a l.b l.after.items
