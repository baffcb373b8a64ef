use Rattle.ctd_transfer.proofs.Common.{drop, expr_list}
use Rattle.ctd_transfer.proofs.Evaluating.{Leads}
use Rattle.ctd_transfer.proofs.expression.+evaluate.Given as goal

abbrev pub invariant-index_faults-loop-index : goal.invariant-index_faults-loop-index
invariant-index_faults-loop-index l = Leads l.context l.state l.faults (expr_list (drop l.index-index l.indices)) (expr_list l.indices)
