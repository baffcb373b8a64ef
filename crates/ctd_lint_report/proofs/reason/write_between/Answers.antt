use Rattle.ctd_lint_report.proofs.Common.{codes, rules, signed_decimal, to_z-of_z, w128}
use Rattle.ctd_lint_report.proofs.Appended.{then_more}
use Rattle.ctd_lint_report.proofs.reason.write_between.Goals as goal

pub returns : goal.returns
returns c =
    let first = simp (to_z-of_z w128 c.args.least (search rules)) at c.in_ok-write_digits.ensures in
    let second = simp (to_z-of_z w128 c.args.most (search rules)) at c.write_digits-2.ensures in
    then_more c.write_digits-2.result c.args.text.now.items _ _ (codes " is only known to be from ") _ c.in_ok-extend_from_slice.ensures.items
    (then_more c.write_digits-2.result _ _ _ (signed_decimal c.args.least) _ first
    (then_more c.write_digits-2.result _ _ _ (codes " to ") (signed_decimal c.args.most) c.in_ok-extend_from_slice-2.ensures.items second))
