use Rattle.ctd_limits.specs.inner.Listed.{AddsAll}
use Rattle.ctd_limits.proofs.bounds.sums_of.Given as goal

abbrev pub invariant-loop-a : goal.invariant-loop-a
invariant-loop-a l = AddsAll l.bounds l.others l.all.items
