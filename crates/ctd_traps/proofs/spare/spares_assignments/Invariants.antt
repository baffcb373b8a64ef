use Rattle.ctd_traps.proofs.Common.{SparesAll, assignment, drop, map}
use Rattle.ctd_traps.proofs.spare.spares_assignments.Given as goal

abbrev pub invariant-loop-a : goal.invariant-loop-a
invariant-loop-a l = SparesAll l.name (map assignment (drop l.a-index l.assignments)) → SparesAll l.name (map assignment l.assignments)
