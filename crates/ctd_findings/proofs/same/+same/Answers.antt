use Rattle.ctd_program.specs.Tree
use Rattle.ctd_findings.proofs.Common.{Box, Element, Expr, IsTrue, ap, ap₂, boxed_element, expr_list, expr_tree, exprs_of, rules, sym, ◌∙◌, ◌≡◌}
use Rattle.ctd_program.specs.declared.tree.Element as elements
use Rattle.ctd_findings.proofs.same.+same.Goals as goal

one_element : (a b : Expr) (x y : Box elements.Element) (e f : elements.Element) → a ≡ Element x → b ≡ Element y → e ≡ x.value → f ≡ y.value
    → e.name ≡ f.name → expr_list (exprs_of e.indices) ≡ expr_list (exprs_of f.indices) → expr_tree a ≡ expr_tree b
one_element a b x y e f is is_too held held_too name indices =
    ap expr_tree is ∙ boxed_element x
    ∙ ap (λ (z : elements.Element). Tree.variable z.name (expr_list (exprs_of z.indices))) (sym held)
    ∙ ap₂ Tree.variable name indices
    ∙ ap (λ (z : elements.Element). Tree.variable z.name (expr_list (exprs_of z.indices))) held_too
    ∙ sym (boxed_element y) ∙ sym (ap expr_tree is_too)

pub is_same-returns-in-Element-matches : goal.is_same-returns-in-Element-matches
is_same-returns-in-Element-matches t c =
    let same : IsTrue c.is_same_element.result = search rules in
    record {
      one_tree = λ _. one_element c.args.a.now c.args.b.now c.in-Element.x c.in-Element-matches.y c.deref.result.now c.deref-in-Element.result.now
          c.in-Element.is c.in-Element-matches.is c.deref.ensures c.deref-in-Element.ensures (c.is_same_element.ensures.one_name same) (c.is_same_element.ensures.one_list same);
    }
