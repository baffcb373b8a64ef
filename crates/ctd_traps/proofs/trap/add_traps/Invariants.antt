use Rattle.ctd_traps.proofs.Common.{ArePart, faults_of, take}
use Rattle.ctd_traps.proofs.trap.add_traps.Given as goal

abbrev pub invariant-loop-trap : goal.invariant-loop-trap
invariant-loop-trap l = record {
  more : ArePart (faults_of l.initial.traps.items) (faults_of l.traps.items);
  added : ArePart (faults_of (take l.trap-index l.more)) (faults_of l.traps.items);
}
