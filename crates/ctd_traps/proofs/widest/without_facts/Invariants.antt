use Rattle.ctd_traps.proofs.Common.{OneStands, drop}
use Rattle.ctd_partitions.proofs.Joining.{RestOr}
use Rattle.ctd_traps.proofs.widest.without_facts.Given as goal

abbrev pub invariant-loop-state : goal.invariant-loop-state
invariant-loop-state l = RestOr l.context (drop l.state-index l.states) l.states (λ n h. OneStands l.context l.wider.items n h)
