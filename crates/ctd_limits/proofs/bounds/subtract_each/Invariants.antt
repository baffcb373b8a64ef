use Rattle.ctd_limits.specs.inner.Listed.{SubtractsEach}
use Rattle.ctd_limits.proofs.bounds.subtract_each.Given as goal

abbrev pub invariant-loop-b : goal.invariant-loop-b
invariant-loop-b l = SubtractsEach l.fn.after.items l.a l.others l.after.items
