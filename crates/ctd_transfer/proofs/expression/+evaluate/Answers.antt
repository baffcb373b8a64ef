use Rattle.ctd_transfer.proofs.Common.{arith, Bindings, Context, Evaluates, Evaluation, FitsSigned, IsEvaluated, Ok, drop, expr_list, expr_tree, if_ok_more, refl, rules, subst, sym, to_z-of_z, w128, ℕ, ◌+◌}
use Rattle.ctd_program.specs.Tree
use Rattle.ctd_store.specs.declared.value.Value.TheVariants as values
use Rattle.ctd_transfer.proofs.Divisors.{difference_divides, number_divides}
use Rattle.ctd_transfer.specs.inner.Divisors.{IsDivision}
use Rattle.ctd_transfer.specs.inner.Evaluated.{EvaluatesAt, IsOperation}
use Rattle.ctd_transfer.specs.inner.Indices.{AllFailBy}
use Rattle.ctd_transfer.proofs.Evaluating.{Leads, element_is, expr_first, expr_last, four_operands, leads_on, more_indices, none_fail, one_index, two_indices, two_operands}
use Rattle.ctd_transfer.proofs.expression.+evaluate.Goals as goal

pub evaluate-returns-in-Numeral : goal.evaluate-returns-in-Numeral
evaluate-returns-in-Numeral t c =
    let g = c.args.context in
    let st = c.args.state.now in
    let fits : FitsSigned w128 c.value.result = search rules in
    let gives = rw (to_z-of_z w128 c.value.result fits, c.value.ensures.same) at c.number_result.ensures in
    rw c.in-Numeral.is
    (if_ok_more (λ (r : Evaluation). (g : Context) (k : ℕ) (h : Bindings) → IsEvaluated g r k h (Ok (values.Int c.in-Numeral.n))) (λ (r : Evaluation). Evaluates g st (Tree.numeral c.in-Numeral.n) r) c.number_result.result (λ r so n h stands. so g n h) gives)

pub evaluate-returns-in-Text : goal.evaluate-returns-in-Text
evaluate-returns-in-Text t c = λ n h stands. rw (c.in-Text.is, sym c.as_slice.ensures.whole) (c.text_result.ensures n h)

pub evaluate-returns-in_ok-indices-in-Element : goal.evaluate-returns-in_ok-indices-in-Element
evaluate-returns-in_ok-indices-in-Element t c =
    let g = c.args.context in
    let st = c.args.state.now in
    let name = c.deref-in-Element.result.now.name in
    let es = c.as_slice-in-Element.result.now in
    let some = c.in_ok-indices-in-Element.indices in
    let is = element_is c.args.e.now c.in-Element.element c.deref.result.now c.deref-in-Element.result.now name es c.in-Element.is c.deref.ensures c.as_slice-in-Element.ensures c.deref-in-Element.ensures refl in
    if_ok_more (λ (r : Evaluation). EvaluatesAt g st name some r) (λ (r : Evaluation). Evaluates g st (expr_tree c.args.e.now) r) c.element_result.result
    (λ r so. subst (λ t. Evaluates g st t r) (sym is) (so (expr_list es) c.in_ok-indices-in-Element.ensures)) c.element_result.ensures

pub evaluate-returns-in_ok-right-in-Add : goal.evaluate-returns-in_ok-right-in-Add
evaluate-returns-in_ok-right-in-Add t c =
    let g = c.args.context in
    let st = c.args.state.now in
    let e = c.args.e.now in
    let left = c.in_ok-left-in-Add.left in
    let right = c.in_ok-right-in-Add.right in
    let one = rw c.deref-in-Add.ensures at c.in_ok-left-in-Add.ensures in
    let other = rw c.deref-in-Add-2.ensures at c.in_ok-right-in-Add.ensures in
    if_ok_more (IsOperation e left right) (λ (r : Evaluation). Evaluates g st (expr_tree e) r) c.operation.result
    (λ r so n h stands. so g n h c.in-Add.a c.in-Add.b (four_operands e c.in-Add.a c.in-Add.b c.in-Add.is) (one n h stands) (other n h stands)) c.operation.ensures

pub evaluate-returns-in_ok-divisor-in-Div : goal.evaluate-returns-in_ok-divisor-in-Div
evaluate-returns-in_ok-divisor-in-Div t c =
    let g = c.args.context in
    let st = c.args.state.now in
    let e = c.args.e.now in
    let left = c.in_ok-left-in-Div.left in
    let divisor = c.in_ok-divisor-in-Div.divisor in
    let one = rw c.deref-in-Div.ensures at c.in_ok-left-in-Div.ensures in
    let other = rw c.deref-in-Div-2.ensures at c.in_ok-divisor-in-Div.ensures in
    if_ok_more (IsDivision e left divisor) (λ (r : Evaluation). Evaluates g st (expr_tree e) r) c.division.result
    (λ r so n h stands. so g n h c.in-Div.a c.in-Div.b (two_operands e c.in-Div.a c.in-Div.b c.in-Div.is) (one n h stands) (other n h stands)) c.division.ensures

pub evaluate_divisor-returns-in_ok-value-in-Sub : goal.evaluate_divisor-returns-in_ok-value-in-Sub
evaluate_divisor-returns-in_ok-value-in-Sub t c =
    difference_divides c.args.context c.args.state.now c.args.e.now c.in-Sub.a c.in-Sub.b c.in_ok-left-in-Sub.left c.in_ok-right-in-Sub.right c.in_ok-value-in-Sub.value c.differ_in-is_nonzero.result c.in-Sub.is
    (rw c.deref.ensures at c.in_ok-left-in-Sub.ensures) (rw c.deref-in-Sub.ensures at c.in_ok-right-in-Sub.ensures) c.in_ok-value-in-Sub.ensures c.differ_in-is_nonzero.ensures

pub evaluate_divisor-returns-in_ok-zero-in-Numeral : goal.evaluate_divisor-returns-in_ok-zero-in-Numeral
evaluate_divisor-returns-in_ok-zero-in-Numeral t c =
    number_divides c.args.context c.args.state.now c.args.e.now c.in_ok-value-in-Numeral.value c.in_ok-zero-in-Numeral.zero c.differ_in-is_nonzero-in-Numeral.result
    c.in_ok-value-in-Numeral.ensures c.in_ok-zero-in-Numeral.ensures c.differ_in-is_nonzero-in-Numeral.ensures

pub evaluate_indices-returns-in_ok-evaluate-in-len1 : goal.evaluate_indices-returns-in_ok-evaluate-in-len1
evaluate_indices-returns-in_ok-evaluate-in-len1 t c = λ n h stands.
    one_index c.args.context c.in_ok-evaluate-in-len1.field-0 n h c.args.indices.now c.index-item.result c.in-len1.len_at_least c.in-len1.len_below c.index-item.is (c.in_ok-evaluate-in-len1.ensures n h stands)

pub evaluate_indices-returns-in_ok-second-in-len2 : goal.evaluate_indices-returns-in_ok-second-in-len2
evaluate_indices-returns-in_ok-second-in-len2 t c = λ n h stands.
    two_indices c.args.context c.in_ok-first-in-len2.first c.in_ok-second-in-len2.second n h c.args.indices.now c.index-item-then-indices-lt3.result c.other-item.result c.in-len2.len_at_least c.in-len2.len_below c.index-item-then-indices-lt3.is c.other-item.is
    (c.in_ok-first-in-len2.ensures n h stands) (c.in_ok-second-in-len2.ensures n h stands)

pub evaluate_indices-returns-in_ok-index_faults-in_default : goal.evaluate_indices-returns-in_ok-index_faults-in_default
evaluate_indices-returns-in_ok-index_faults-in_default t c = λ n h stands.
    more_indices c.args.context c.in_ok-index_faults-in_default.field-0 n h c.args.indices.now (omega (arith, c.in_default.len_at_least)) (c.in_ok-index_faults-in_default.ensures n h stands)

pub index_faults-loop-index-preserved : goal.index_faults-loop-index-preserved
index_faults-loop-index-preserved t c =
    let g = c.args.context in
    let st = c.args.state.now in
    let all = c.args.indices.now in
    let i = c.loop-index.index-index in
    leads_on g st c.loop-index.faults c.union-faults.result (expr_tree c.index-item.result) (expr_list (drop (i + 1) all)) (expr_list all) c.in_ok-own.own c.in_ok-own.ensures c.union-faults.ensures.first c.union-faults.ensures.second
    (subst (λ l. Leads g st c.loop-index.faults l (expr_list all)) (expr_first all i c.index-item.result c.loop-index-test.true c.index-item.is) c.loop-index.invariant)

pub index_faults-returns : goal.index_faults-returns
index_faults-returns t c =
    let g = c.args.context in
    let st = c.args.state.now in
    c.loop-index.invariant c.loop-index.faults (λ x h. h)
    (subst (λ l. AllFailBy g st l c.loop-index.faults) (sym (expr_last c.args.indices.now c.loop-index.index-index c.loop-index-test.false)) (none_fail g st c.loop-index.faults))
