use Rattle.ctd_limits.specs.inner.Named.{HighsOf}
use Rattle.ctd_limits.proofs.name.highs_of.Given as goal

abbrev pub invariant-loop-fact : goal.invariant-loop-fact
invariant-loop-fact l = HighsOf l.state l.b l.all.items
