use Rattle.ctd_traps.proofs.Common.{ArePart, Contains, IsOfKind, fault_of_kind, faults_of, get_or, ℕ, ◌<◌}
use Rattle.ctd_states.specs.declared.faults.TrapKind.TheVariants as kinds
use Rattle.ctd_traps.proofs.trap.report.Given as goal

abbrev pub invariant-loop-kind : goal.invariant-loop-kind
invariant-loop-kind l = record {
  more : ArePart (faults_of l.initial.traps.items) (faults_of l.traps.items);
  listed : (k : ℕ) → k < l.kind-index → IsOfKind l.faults (get_or l.kind-items k kinds.NoValue) → Contains (faults_of l.traps.items) (record { place = l.place; fault = fault_of_kind (get_or l.kind-items k kinds.NoValue) });
}
