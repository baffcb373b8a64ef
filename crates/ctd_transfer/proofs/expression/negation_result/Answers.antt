use Rattle.ctd_transfer.proofs.Common.{Bindings, Context, Evaluation, Fault, IsEvaluated, Result, Value, if_ok_more, negated, ℕ}
use Rattle.ctd_transfer.proofs.Evaluating.{nothing_known, possible_of}
use Rattle.ctd_transfer.specs.inner.Evaluated.{Refines}
use Rattle.ctd_transfer.proofs.expression.negation_result.Goals as goal

pub returns : goal.returns
returns c =
    let a = c.args.operand.now in
    let l = c.anything.result in
    if_ok_more (Refines c.negate.result l) (λ (r : Evaluation). (g : Context) (k : ℕ) (h : Bindings) (v : Result Value Fault) → IsEvaluated g a k h v → IsEvaluated g r k h (negated v)) c.refined.result
    (λ r refines g k h v is. refines g k h (negated v) (c.negate.ensures k v (possible_of g a k h v is)) (nothing_known g h l (negated v) c.anything.ensures)) c.refined.ensures
