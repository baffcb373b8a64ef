use Rattle.ctd_transfer.proofs.Common.{expr_tree}
use Rattle.ctd_transfer.proofs.Comparing.{compare_cuts}
use Rattle.ctd_transfer.proofs.condition.compare.Goals as goal

pub returns : goal.returns
returns c =
    compare_cuts c.args.context c.args.state.now c.in_ok-if_true.if_true c.in_ok-if_false.if_false c.args.by c.opposite_of.result (expr_tree c.args.a.now) (expr_tree c.args.b.now) c.in_ok-one.one c.in_ok-other.other c.compare_faults.result
    c.in_ok-one.ensures c.in_ok-other.ensures c.compare_faults.ensures c.in_ok-if_true.ensures c.in_ok-if_false.ensures c.opposite_of.ensures.opposite
