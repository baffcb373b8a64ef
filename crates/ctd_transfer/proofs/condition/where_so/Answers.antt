use Rattle.ctd_transfer.proofs.Common.{AbstractState, IsWhereSo, expr_tree, if_ok_more}
use Rattle.ctd_partitions.specs.calls.Tests.{ComparesState}
use Rattle.ctd_transfer.proofs.Comparing.{both_known}
use Rattle.ctd_transfer.proofs.condition.where_so.Goals as goal

pub returns : goal.returns
returns c =
    let g = c.args.context in
    let st = c.args.state.now in
    let narrowed = c.in_ok-narrowed.narrowed in
    let a = expr_tree c.args.a.expression.now in
    let b = expr_tree c.args.b.expression.now in
    let one = c.args.a.value.now in
    let other = c.args.b.value.now in
    let left = c.as_limits-left.result in
    let right = c.as_limits-right.result in
    if_ok_more (λ (after : AbstractState). ComparesState g narrowed c.args.by left right after) (λ (after : AbstractState). IsWhereSo g st c.args.by a b one other after) c.compared.result
    (λ after so. both_known g st narrowed after c.args.by a b one other left right c.in_ok-narrowed.ensures c.as_limits-left.ensures c.as_limits-right.ensures
    (λ k bytes may. let text = c.is_either.ensures.first (c.may_be_text.ensures k bytes may) in let none = c.if-is_either.false in absurd (cc (text, none))) so) c.compared.ensures
