use Rattle.std.proofs.Common.{ap, ◌∙◌}
use Rattle.ctd_program.specs.inner.View.{element_tree}
use Rattle.ctd_program.proofs.Trees.{boxed_element}
use Rattle.ctd_syntax.proofs.expression.value_of.Goals as goal

pub returns : goal.returns
returns c = boxed_element c.in_ok-element.element ∙ ap element_tree c.in_ok-element.ensures.ok
