use Rattle.ctd_partitions.proofs.partition.is_within_one.Given as goal

abbrev pub invariant-loop-other : goal.invariant-loop-other
invariant-loop-other l = Unit {0}
