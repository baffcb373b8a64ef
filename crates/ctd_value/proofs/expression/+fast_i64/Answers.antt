use Rattle.std.proofs.Common.{ap, sym, ◌∙◌, subst, rules, of_z, to_z, ◌≡◌, Ok, IfSome}
use mir.Syntax.{w64}
use Rattle.ctd_program.specs.Tree
use Rattle.ctd_program.specs.inner.View.{element_tree}
use Rattle.ctd_program.specs.calls.View.{expr_tree}
use Rattle.ctd_program.proofs.Trees.{boxed_element}
use Rattle.ctd_store.specs.declared.value.Value.TheVariants as values
use Rattle.ctd_value.specs.Val.{val}
use Rattle.ctd_value.proofs.FastNumbers.{element_known, of_one, of_two, is_one, is_two, in_register, says_nothing, fast_sum, fast_difference, fast_product, fast_negation, fast_quotient}
use Rattle.ctd_value.proofs.expression.+fast_i64.Goals as goal

pub fast_node-returns-in_err-fast_i64-in-Minus : goal.fast_node-returns-in_err-fast_i64-in-Minus
fast_node-returns-in_err-fast_i64-in-Minus t c = record { value = says_nothing _ c.from_residual.ensures }

pub fast_node-returns-in_err-x-in-Add : goal.fast_node-returns-in_err-x-in-Add
fast_node-returns-in_err-x-in-Add t c = record { value = says_nothing _ c.from_residual-in_err-x-in-Add.ensures }

pub fast_node-returns-in_err-fast_i64-in-Add : goal.fast_node-returns-in_err-fast_i64-in-Add
fast_node-returns-in_err-fast_i64-in-Add t c = record { value = says_nothing _ c.from_residual-in_err-fast_i64-in-Add.ensures }

pub fast_node-returns-in_err-x-in-Sub : goal.fast_node-returns-in_err-x-in-Sub
fast_node-returns-in_err-x-in-Sub t c = record { value = says_nothing _ c.from_residual-in_err-x-in-Sub.ensures }

pub fast_node-returns-in_err-fast_i64-in-Sub : goal.fast_node-returns-in_err-fast_i64-in-Sub
fast_node-returns-in_err-fast_i64-in-Sub t c = record { value = says_nothing _ c.from_residual-in_err-fast_i64-in-Sub.ensures }

pub fast_node-returns-in_err-x-in-Mul : goal.fast_node-returns-in_err-x-in-Mul
fast_node-returns-in_err-x-in-Mul t c = record { value = says_nothing _ c.from_residual-in_err-x-in-Mul.ensures }

pub fast_node-returns-in_err-fast_i64-in-Mul : goal.fast_node-returns-in_err-fast_i64-in-Mul
fast_node-returns-in_err-fast_i64-in-Mul t c = record { value = says_nothing _ c.from_residual-in_err-fast_i64-in-Mul.ensures }

pub fast_node-returns-in_err-x-in-Div : goal.fast_node-returns-in_err-x-in-Div
fast_node-returns-in_err-x-in-Div t c = record { value = says_nothing _ c.from_residual-in_err-x-in-Div.ensures }

pub fast_node-returns-in_err-fast_i64-in-Div : goal.fast_node-returns-in_err-fast_i64-in-Div
fast_node-returns-in_err-fast_i64-in-Div t c = record { value = says_nothing _ c.from_residual-in_err-fast_i64-in-Div.ensures }

pub fast_node-returns-in_err-x-in-Rem : goal.fast_node-returns-in_err-x-in-Rem
fast_node-returns-in_err-x-in-Rem t c = record { value = says_nothing _ c.from_residual-in_err-x-in-Rem.ensures }

pub fast_node-returns-in_err-fast_i64-in-Rem : goal.fast_node-returns-in_err-fast_i64-in-Rem
fast_node-returns-in_err-fast_i64-in-Rem t c = record { value = says_nothing _ c.from_residual-in_err-fast_i64-in-Rem.ensures }

pub fast_i64-returns-in-Element-clause-value : goal.fast_i64-returns-in-Element-clause-value
fast_i64-returns-in-Element-clause-value t c =
    ap (λ e. val e c.args.store.now) (ap expr_tree c.in-Element.is ∙ boxed_element c.in-Element.v ∙ ap element_tree (sym c.deref.ensures))
    ∙ in_register c.in_ok-n.n (search rules) c.in_ok-n.ensures.value

pub fast_node-returns-in_ok-fast_i64-in-Add : goal.fast_node-returns-in_ok-fast_i64-in-Add
fast_node-returns-in_ok-fast_i64-in-Add t c = record {
  value = fast_sum c.checked_add.result (expr_tree c.args.e.now) (expr_tree c.deref-in-Add.result.now) (expr_tree c.deref-in-Add-2.result.now) c.args.store.now (to_z w64 (of_z w64 c.in_ok-x-in-Add.x)) (to_z w64 (of_z w64 c.in_ok-fast_i64-in-Add.field-0))
      (ap expr_tree c.in-Add.is ∙ (λ j. Tree.sum (expr_tree (sym c.deref-in-Add.ensures j)) (expr_tree (sym c.deref-in-Add-2.ensures j))))
      (in_register c.in_ok-x-in-Add.x (search rules) c.in_ok-x-in-Add.ensures.value)
      (in_register c.in_ok-fast_i64-in-Add.field-0 (search rules) c.in_ok-fast_i64-in-Add.ensures.value) c.checked_add.ensures;
}

pub fast_node-returns-in_ok-fast_i64-in-Sub : goal.fast_node-returns-in_ok-fast_i64-in-Sub
fast_node-returns-in_ok-fast_i64-in-Sub t c = record {
  value = fast_difference c.checked_sub.result (expr_tree c.args.e.now) (expr_tree c.deref-in-Sub.result.now) (expr_tree c.deref-in-Sub-2.result.now) c.args.store.now (to_z w64 (of_z w64 c.in_ok-x-in-Sub.x)) (to_z w64 (of_z w64 c.in_ok-fast_i64-in-Sub.field-0))
      (ap expr_tree c.in-Sub.is ∙ (λ j. Tree.difference (expr_tree (sym c.deref-in-Sub.ensures j)) (expr_tree (sym c.deref-in-Sub-2.ensures j))))
      (in_register c.in_ok-x-in-Sub.x (search rules) c.in_ok-x-in-Sub.ensures.value)
      (in_register c.in_ok-fast_i64-in-Sub.field-0 (search rules) c.in_ok-fast_i64-in-Sub.ensures.value) c.checked_sub.ensures;
}

pub fast_node-returns-in_ok-fast_i64-in-Mul : goal.fast_node-returns-in_ok-fast_i64-in-Mul
fast_node-returns-in_ok-fast_i64-in-Mul t c = record {
  value = fast_product c.checked_mul.result (expr_tree c.args.e.now) (expr_tree c.deref-in-Mul.result.now) (expr_tree c.deref-in-Mul-2.result.now) c.args.store.now (to_z w64 (of_z w64 c.in_ok-x-in-Mul.x)) (to_z w64 (of_z w64 c.in_ok-fast_i64-in-Mul.field-0))
      (ap expr_tree c.in-Mul.is ∙ (λ j. Tree.times (expr_tree (sym c.deref-in-Mul.ensures j)) (expr_tree (sym c.deref-in-Mul-2.ensures j))))
      (in_register c.in_ok-x-in-Mul.x (search rules) c.in_ok-x-in-Mul.ensures.value)
      (in_register c.in_ok-fast_i64-in-Mul.field-0 (search rules) c.in_ok-fast_i64-in-Mul.ensures.value) c.checked_mul.ensures;
}

pub fast_node-returns-in_ok-fast_i64-in-Div : goal.fast_node-returns-in_ok-fast_i64-in-Div
fast_node-returns-in_ok-fast_i64-in-Div t c = record {
  value = fast_quotient c.checked_div.result (expr_tree c.args.e.now) (expr_tree c.deref-in-Div.result.now) (expr_tree c.deref-in-Div-2.result.now) c.args.store.now (to_z w64 (of_z w64 c.in_ok-x-in-Div.x)) (to_z w64 (of_z w64 c.in_ok-fast_i64-in-Div.field-0))
      (ap expr_tree c.in-Div.is ∙ (λ j. Tree.quotient (expr_tree (sym c.deref-in-Div.ensures j)) (expr_tree (sym c.deref-in-Div-2.ensures j))))
      (in_register c.in_ok-x-in-Div.x (search rules) c.in_ok-x-in-Div.ensures.value)
      (in_register c.in_ok-fast_i64-in-Div.field-0 (search rules) c.in_ok-fast_i64-in-Div.ensures.value) c.checked_div.ensures;
}

pub fast_node-returns-in_ok-fast_i64-in-Minus : goal.fast_node-returns-in_ok-fast_i64-in-Minus
fast_node-returns-in_ok-fast_i64-in-Minus t c = record {
  value = fast_negation c.checked_neg.result (expr_tree c.args.e.now) (expr_tree c.deref-in-Minus.result.now) c.args.store.now (to_z w64 (of_z w64 c.in_ok-fast_i64-in-Minus.field-0))
      (ap expr_tree c.in-Minus.is ∙ (λ j. Tree.minus (expr_tree (sym c.deref-in-Minus.ensures j))))
      (in_register c.in_ok-fast_i64-in-Minus.field-0 (search rules) c.in_ok-fast_i64-in-Minus.ensures.value) c.checked_neg.ensures;
}

pub fast_node-returns-in-Element : goal.fast_node-returns-in-Element
fast_node-returns-in-Element t c = record {
  value = subst (λ e. IfSome c.fast_element.result (λ n. val e c.args.store.now ≡ Ok (values.Int n)))
      (sym (ap expr_tree c.in-Element.is ∙ boxed_element c.in-Element.v ∙ ap element_tree (sym c.deref.ensures))) c.fast_element.ensures.value;
}

pub fast_element_value-returns-in_ok-fast_index-in-len1 : goal.fast_element_value-returns-in_ok-fast_index-in-len1
fast_element_value-returns-in_ok-fast_index-in-len1 t c = record {
  value = element_known c.value_at.result c.args.v.now c.as_slice.result.now _ c.args.store.now c.as_slice.ensures
      (of_one c.as_slice.result.now c.index-item.result _ c.args.store.now (is_one c.as_slice.result.now c.index-item.result c.in-len1.len_at_least c.in-len1.len_below c.index-item.is) c.in_ok-fast_index-in-len1.ensures.value)
      c.value_at.ensures.value;
}

pub fast_element_value-returns-in_ok-fast_index-in-len2 : goal.fast_element_value-returns-in_ok-fast_index-in-len2
fast_element_value-returns-in_ok-fast_index-in-len2 t c = record {
  value = element_known c.value_at-in-len2.result c.args.v.now c.as_slice.result.now _ c.args.store.now c.as_slice.ensures
      (of_two c.as_slice.result.now c.row-item.result c.column-item.result _ _ c.args.store.now (is_two c.as_slice.result.now c.row-item.result c.column-item.result c.in-len2.len_at_least c.in-len2.len_below c.row-item.is c.column-item.is) c.in_ok-row-in-len2.ensures.value c.in_ok-fast_index-in-len2.ensures.value)
      c.value_at-in-len2.ensures.value;
}
