use Rattle.std.proofs.Common.{◌∷◌, []}
use Rattle.ctd_lint_report.proofs.Common.{ap, rules, to_z-of_z, w128, ◌++◌, ◌∙◌}
use Rattle.ctd_lint_report.specs.calls.Numbers.{integer_entry}
use Rattle.ctd_lint_report.specs.calls.Relations.{relation}
use Rattle.ctd_lint_report.specs.declared.relation.Sign.TheVariants as signs
use Rattle.ctd_lint_report.proofs.Appended.{then_more}
use Rattle.ctd_lint_report.proofs.relation.add_same.Goals as goal

pub returns : goal.returns
returns c =
    let number = simp (to_z-of_z w128 c.args.number (search rules)) at c.in_ok-right.ensures in
    let is = c.in_ok-add_relation.ensures ∙ ap (λ t. c.args.relations.now.items ++ relation c.in_ok-copy.field-0 signs.Equal t ∷ []) number
    ∙ ap (λ t. c.args.relations.now.items ++ relation t signs.Equal (integer_entry c.args.form c.args.number) ∷ []) c.in_ok-copy.ensures.equal in
    then_more c.add_bound.result c.args.relations.now.items _ _ _ _ is c.add_bound.ensures
