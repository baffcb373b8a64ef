use Rattle.ctd_traps.specs.inner.Turns.{AreLasting}
use Rattle.ctd_traps.proofs.lasting.lasting_bounds.Given as goal

abbrev pub invariant-loop-b : goal.invariant-loop-b
invariant-loop-b l = AreLasting l.context.names.now l.repeated l.bounds l.after.items
