use Rattle.ctd_transfer.proofs.Common.{expr_tree, target}
use Rattle.ctd_transfer.proofs.Acting.{int_acts}
use Rattle.ctd_transfer.proofs.simple.take_integer.Goals as goal

pub returns : goal.returns
returns c =
    let int = c.args.arguments.now in
    let kept = c.in_ok-kept.kept in
    int_acts c.args.context c.args.state.now kept.after (expr_tree int.low) (expr_tree int.high) (target int.target) c.in_ok-low.low c.in_ok-high.high c.between-2.result c.in_ok-limits.limits c.as_limits.result c.number_faults.result c.number_faults-2.result kept.faults c.union.result
    c.in_ok-low.ensures c.in_ok-high.ensures c.number_faults.ensures c.number_faults-2.ensures c.between-2.ensures c.in_ok-limits.ensures c.as_limits.ensures c.in_ok-kept.ensures
    (λ x h. c.union.ensures.first x (c.union-bounds.ensures.first x h)) (λ x h. c.union.ensures.first x (c.union-bounds.ensures.second x h)) (λ x h. c.union.ensures.second x h)
