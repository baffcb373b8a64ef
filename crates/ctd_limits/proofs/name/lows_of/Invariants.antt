use Rattle.ctd_limits.specs.inner.Named.{LowsOf}
use Rattle.ctd_limits.proofs.name.lows_of.Given as goal

abbrev pub invariant-loop-fact : goal.invariant-loop-fact
invariant-loop-fact l = LowsOf l.state l.b l.all.items
