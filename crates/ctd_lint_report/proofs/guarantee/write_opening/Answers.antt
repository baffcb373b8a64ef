use Rattle.ctd_lint_report.proofs.Common.{codes}
use Rattle.ctd_lint_report.proofs.Appended.{then_more}
use Rattle.ctd_lint_report.specs.calls.Json.{head_text, member}
use Rattle.ctd_lint_report.proofs.guarantee.write_opening.Goals as goal

pub returns : goal.returns
returns c =
    then_more c.write_member-2.result c.args.text.now.items _ _ (head_text c.args.file.now c.args.place) _ c.in_ok-write_head.ensures
    (then_more c.write_member-2.result _ _ _ (member (codes "rank") (codes "guarantee")) (member (codes "text") c.args.said.now) c.in_ok-write_member.ensures c.write_member-2.ensures)
