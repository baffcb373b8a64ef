use Rattle.ctd_limits.specs.inner.Listed.{SubtractsAll}
use Rattle.ctd_limits.proofs.bounds.differences_of.Given as goal

abbrev pub invariant-loop-a : goal.invariant-loop-a
invariant-loop-a l = SubtractsAll l.bounds l.others l.all.items
