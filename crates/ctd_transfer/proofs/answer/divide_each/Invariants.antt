use Rattle.ctd_transfer.proofs.Common.{RestOr, drop, test_tree}
use Rattle.ctd_transfer.proofs.Dividing.{DividesSo}
use Rattle.ctd_transfer.proofs.answer.divide_each.Given as goal

abbrev pub invariant-loop-state : goal.invariant-loop-state
invariant-loop-state l = RestOr l.context (drop l.state-index l.states) l.states (DividesSo l.context (test_tree l.t) l.if_true.items l.if_false.items l.faults)
