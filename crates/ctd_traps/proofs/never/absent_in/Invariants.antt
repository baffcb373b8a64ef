use Rattle.ctd_traps.specs.inner.Absent.{AreAbsent}
use Rattle.ctd_traps.proofs.never.absent_in.Given as goal

abbrev pub invariant-loop-entry : goal.invariant-loop-entry
invariant-loop-entry l = AreAbsent l.fn.notes l.never.items
