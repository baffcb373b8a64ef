use Rattle.ctd_limits.specs.inner.Operators.{LessOne}
use Rattle.ctd_limits.proofs.operators.ones_less.Given as goal

abbrev pub invariant-loop-b : goal.invariant-loop-b
invariant-loop-b l = LessOne l.bounds l.all.items
