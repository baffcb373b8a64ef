use Rattle.ctd_lint_report.proofs.Common.{rules, to_z-of_z, w128}
use Rattle.ctd_lint_report.proofs.Appended.{then_more}
use Rattle.ctd_lint_report.proofs.relation.add_between.Goals as goal

pub returns : goal.returns
returns c =
    let low = simp (to_z-of_z w128 c.args.low (search rules)) at c.in_ok-add_least.ensures in
    let high = simp (to_z-of_z w128 c.args.high (search rules)) at c.add_most.ensures in
    then_more c.add_most.result c.args.relations.now.items _ _ _ _ low (then_more c.add_most.result _ _ _ _ _ c.in_ok-add_bound.ensures high)
