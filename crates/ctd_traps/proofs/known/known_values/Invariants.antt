use Rattle.ctd_traps.specs.inner.Knowing.{TellsAll}
use Rattle.ctd_traps.proofs.known.known_values.Given as goal

abbrev pub invariant-loop-i : goal.invariant-loop-i
invariant-loop-i l = TellsAll l.state l.known.items
