use Rattle.ctd_transfer.proofs.Common.{if_ok_more, subst, sym}
use Rattle.ctd_transfer.proofs.Evaluating.{FindsOperation, operands_found, operation_evaluates, square_found}
use Rattle.ctd_transfer.specs.inner.Evaluated.{IsOperation, Refines}
use Rattle.ctd_transfer.proofs.expression.operation.Goals.{then-is_square, else-is_square}
use Rattle.ctd_transfer.proofs.expression.operation.Goals as goal

pub returns : goal.returns
returns c =
    if_ok_more (Refines c.if-is_square.found c.in_ok-limits.limits) (IsOperation c.args.e.now c.args.left.now c.args.right.now) c.refined.result
    (λ r. operation_evaluates c.args.e.now c.operator_of-operator.result c.args.left.now c.args.right.now r c.if-is_square.found c.in_ok-limits.limits c.operator_of-operator.ensures
    (elim c.if-is_square.branch [
      | then-is_square w ↦ subst (λ f. FindsOperation c.args.e.now c.args.left.now c.args.right.now f) (sym w.found-is) (square_found c.args.e.now c.args.left.now c.args.right.now w.of_number.result w.apply-found.result (c.is_square.ensures w.if-is_square.true) w.of_number.ensures w.apply-found.ensures)
      | else-is_square w ↦ subst (λ f. FindsOperation c.args.e.now c.args.left.now c.args.right.now f) (sym w.found-is) (operands_found c.args.e.now c.operator_of-operator.result c.args.left.now c.args.right.now w.apply-found-else-is_square.result c.operator_of-operator.ensures w.apply-found-else-is_square.ensures)
    ])
    c.in_ok-limits.ensures)
    c.refined.ensures
