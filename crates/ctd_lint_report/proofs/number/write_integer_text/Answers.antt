use Rattle.ctd_lint_report.proofs.Common.{OnOk, codes, rules, subst, to_z-of_z, w128, ◌++◌, ◌≡◌, ◌∙◌, ap}
use Rattle.std.proofs.Common.{unsigned_abs}
use Rattle.ctd_lint_report.proofs.Appended.{then_more}
use Rattle.ctd_lint_report.proofs.Exponents.{negative_text}
use Rattle.ctd_lint_report.proofs.number.write_integer_text.Goals as goal

pub returns-then-number-lt0 : goal.returns-then-number-lt0
returns-then-number-lt0 c =
    let is = c.unsigned_abs.ensures.value ∙ ap unsigned_abs (to_z-of_z w128 c.args.number (search rules)) in
    subst (λ t. OnOk c.write_natural.result (c.write_natural.new.text.items ≡ c.args.text.now.items ++ t)) (negative_text c.args.number c.unsigned_abs.result (simp (to_z-of_z w128 c.args.number (search rules)) at c.if-number-lt0.true) is)
    (then_more c.write_natural.result c.args.text.now.items _ _ (codes "-") _ c.in_ok-extend_from_slice.ensures.items c.write_natural.ensures)
