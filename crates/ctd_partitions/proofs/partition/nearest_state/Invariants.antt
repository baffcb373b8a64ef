use Rattle.std.proofs.Common.{IfSome, length, ◌<◌}
use Rattle.ctd_partitions.proofs.partition.nearest_state.Given as goal

abbrev pub invariant-loop-i : goal.invariant-loop-i
invariant-loop-i l = IfSome l.nearest (λ i. i < length l.states)
