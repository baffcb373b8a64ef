use Rattle.ctd_lint_report.proofs.Common.{codes}
use Rattle.std.proofs.Common.{arith}
use Rattle.std.proofs.lemmas.Grind.{common_steps}
use Rattle.ctd_lint_report.proofs.Appended.{then_more}
use Rattle.ctd_lint_report.specs.calls.Guarantees.{spot_text}
use Rattle.ctd_lint_report.proofs.guarantee.write_turns.Goals as goal

pub returns : goal.returns
returns c =
    then_more c.extend_from_slice-2.result c.args.text.now.items _ _ (codes "  at the end of each turn of ") _ c.in_ok-extend_from_slice.ensures.items
    (then_more c.extend_from_slice-2.result _ _ _ (spot_text c.args.place) (codes "\n") c.in_ok-write_spot.ensures (grind (arith, common_steps)))
