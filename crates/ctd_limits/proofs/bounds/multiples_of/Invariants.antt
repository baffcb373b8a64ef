use Rattle.ctd_limits.specs.inner.Listed.{Multiplies}
use Rattle.ctd_limits.proofs.bounds.multiples_of.Given as goal

abbrev pub invariant-loop-a : goal.invariant-loop-a
invariant-loop-a l = Multiplies l.times l.bounds l.all.items
