use Rattle.ctd_lint_report.proofs.Common.{codes, rules, signed_decimal, to_z-of_z, w128}
use Rattle.ctd_lint_report.proofs.Appended.{then_more}
use Rattle.ctd_lint_report.proofs.reason.write_most.Goals as goal

pub returns : goal.returns
returns c =
    let number = simp (to_z-of_z w128 c.args.most (search rules)) at c.write_digits.ensures in
    then_more c.write_digits.result c.args.text.now.items _ _ (codes " is only known to be at most ") (signed_decimal c.args.most) c.in_ok-extend_from_slice.ensures.items number
