use Rattle.std.proofs.Common.{◌≡◌, ◌++◌, arith, codes, subst, sym, OnOk}
use Rattle.std.proofs.lemmas.Grind.{common_steps}
use Rattle.ctd_lint_report.specs.calls.Text.{place_text, unclosed_line}
use Rattle.ctd_lint_report.proofs.Appended.{then_more}
use Rattle.ctd_lint_report.proofs.text.write_unclosed.Goals as goal

pub returns : goal.returns
returns c =
    subst (λ unclosed. OnOk c.extend_from_slice-2.result (c.extend_from_slice-2.new.self.items ≡ c.args.text.now.items ++ unclosed_line c.args.file.now unclosed)) (sym c.in-Some.is)
    (then_more c.extend_from_slice-2.result c.args.text.now.items _ _ c.args.file.now _ c.in_ok-extend_from_slice.ensures.items
    (then_more c.extend_from_slice-2.result _ _ _ (place_text c.in-Some.place) (codes ": note: this command has no END\n") c.in_ok-write_place.ensures (grind (arith, common_steps))))
