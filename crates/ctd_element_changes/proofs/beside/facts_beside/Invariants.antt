use Rattle.ctd_element_changes.specs.calls.Changes.{KeepsBeside}
use Rattle.ctd_element_changes.proofs.beside.facts_beside.Given as goal

abbrev pub invariant-loop-fact : goal.invariant-loop-fact
invariant-loop-fact l = KeepsBeside l.names l.facts l.name l.after.items
