use Rattle.ctd_transfer.proofs.Common.{expr_tree, var_tree}
use Rattle.ctd_transfer.proofs.Acting.{one_acts}
use Rattle.ctd_transfer.proofs.variable.set_one.Goals as goal

pub returns : goal.returns
returns c =
    let own = c.in_ok-own.own in
    one_acts c.args.context c.args.state.now own.after (var_tree c.args.a.now.target) (expr_tree c.args.a.now.value) c.in_ok-value.value c.as_limits.result own.faults c.union.result
    c.in_ok-value.ensures c.as_limits.ensures c.in_ok-own.ensures c.union.ensures.first c.union.ensures.second
