use Rattle.ctd_lint_report.proofs.Common.{[], codes, relation_arrays}
use Rattle.std.proofs.Common.{arith}
use Rattle.std.proofs.lemmas.Grind.{common_steps}
use Rattle.ctd_lint_report.proofs.Appended.{then_more}
use Rattle.ctd_lint_report.proofs.guarantee.write_relations_member.Goals as goal

pub returns : goal.returns
returns c =
    then_more c.extend_from_slice-2.result c.args.text.now.items _ _ (codes ",\"relations\":[") _ c.in_ok-extend_from_slice.ensures.items
    (then_more c.extend_from_slice-2.result _ _ _ (relation_arrays [] c.args.relations.now) (codes "]") c.in_ok-write_relation_arrays.ensures (grind (arith, common_steps)))
