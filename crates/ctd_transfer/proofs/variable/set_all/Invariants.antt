use Rattle.ctd_transfer.proofs.Common.{assignment, drop, map}
use Rattle.ctd_transfer.proofs.Acting.{SetLeads}
use Rattle.ctd_transfer.proofs.variable.set_all.Given as goal

abbrev pub invariant-loop-a : goal.invariant-loop-a
invariant-loop-a l = SetLeads l.context l.state l.after l.faults (map assignment (drop l.a-index l.assignments)) (map assignment l.assignments)
