use Rattle.ctd_traps.specs.inner.Knowing.{TellsAll}
use Rattle.ctd_traps.proofs.known.known_in.Given as goal

abbrev pub invariant-loop-k : goal.invariant-loop-k
invariant-loop-k l = TellsAll l.state l.known.items
