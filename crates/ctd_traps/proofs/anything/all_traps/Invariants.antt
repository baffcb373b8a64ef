use Rattle.ctd_traps.proofs.Common.{drop, faults_of}
use Rattle.ctd_traps.proofs.Failing.{LeftOrListed}
use Rattle.ctd_traps.proofs.anything.all_traps.Given as goal

abbrev pub invariant-loop-entry : goal.invariant-loop-entry
invariant-loop-entry l = LeftOrListed (faults_of l.traps.items) (drop l.entry-index l.entry-items) l.entry-items
