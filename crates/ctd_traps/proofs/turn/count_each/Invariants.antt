use Rattle.ctd_traps.proofs.Common.{boxed_target, drop}
use Rattle.ctd_partitions.proofs.Joining.{RestOr}
use Rattle.ctd_traps.proofs.Turning.{CountsSo}
use Rattle.ctd_traps.proofs.turn.count_each.Given as goal

abbrev pub invariant-loop-state : goal.invariant-loop-state
invariant-loop-state l = RestOr l.context (drop l.state-index l.states) l.states (CountsSo l.context (boxed_target l.counter) l.turn l.phase l.by l.counting l.after.items l.faults)
