use Rattle.ctd_traps.specs.inner.Knowing.{AreKnown}
use Rattle.ctd_traps.proofs.known.known_at_places.Given as goal

abbrev pub invariant-loop-entry : goal.invariant-loop-entry
invariant-loop-entry l = AreKnown l.context l.joined l.found.items
