use Rattle.std.proofs.Common.{ap, sym, ◌∙◌}
use Rattle.ctd_program.specs.inner.View.{element_tree}
use Rattle.ctd_program.specs.calls.View.{expr_tree}
use Rattle.ctd_program.proofs.Trees.{boxed_element}
use Rattle.ctd_store.specs.declared.value.Value.TheVariants as values
use Rattle.ctd_value.specs.Val.{val}
use Rattle.ctd_value.proofs.FastNumbers.{of_kind}
use Rattle.ctd_value.proofs.expression.fast_text.Goals as goal

pub returns-in_ok-fast_element_value-in-Element : goal.returns-in_ok-fast_element_value-in-Element
returns-in_ok-fast_element_value-in-Element c =
    let tree = ap expr_tree c.in-Element.is ∙ boxed_element c.in-Element.v ∙ ap element_tree (sym c.deref.ensures) in
    record {
      value = of_kind c.text_in-in-Element.result (λ bytes. values.Text bytes.now) (val (expr_tree c.args.e.now) c.args.store.now) c.in_ok-fast_element_value-in-Element.field-0.now
          (ap (λ e. val e c.args.store.now) tree ∙ c.in_ok-fast_element_value-in-Element.ensures.value) c.text_in-in-Element.ensures.value;
    }
