use Rattle.ctd_limits.specs.inner.Listed.{AddsEach}
use Rattle.ctd_limits.proofs.bounds.add_each.Given as goal

abbrev pub invariant-loop-b : goal.invariant-loop-b
invariant-loop-b l = AddsEach l.fn.after.items l.a l.others l.after.items
