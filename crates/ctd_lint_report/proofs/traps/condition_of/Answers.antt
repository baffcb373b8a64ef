use Rattle.ctd_lint_report.proofs.Common.{ap₂, condition_text, ◌∙◌}
use Rattle.ctd_lint_report.proofs.traps.condition_of.Goals as goal

pub returns : goal.returns
returns c = c.condition_text.ensures ∙ ap₂ condition_text c.some_element.ensures c.some_shape.ensures
