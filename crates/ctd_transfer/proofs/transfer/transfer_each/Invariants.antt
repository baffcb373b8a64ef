use Rattle.ctd_transfer.proofs.Common.{RestOr, command_tree, drop}
use Rattle.ctd_transfer.proofs.Plain.{ActsSo}
use Rattle.ctd_transfer.proofs.transfer.transfer_each.Given as goal

abbrev pub invariant-loop-state : goal.invariant-loop-state
invariant-loop-state l = RestOr l.context (drop l.state-index l.states) l.states (ActsSo l.context (command_tree l.command) l.after.items l.faults)
