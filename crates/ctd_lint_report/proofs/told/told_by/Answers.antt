use Rattle.std.proofs.lemmas.List.{drop_more}
use Rattle.ctd_lint_report.proofs.Common.{Finding, ap, drop, sym, ◌+◌, ◌∙◌, ◌∷◌}
use Rattle.ctd_lint_report.proofs.Telling.{next_told}
use Rattle.ctd_lint_report.proofs.told.told_by.Goals as goal

pub loop-finding-preserved : goal.loop-finding-preserved
loop-finding-preserved c =
    let found = c.args.found.now in
    let i = c.loop-finding.finding-index in
    let f = c.finding-item.result in
    next_told c.args.ignored.now c.loop-finding.told.items c.add_told.new.told.items f (drop i found) (drop (i + 1) found) found
    (drop_more found i f c.loop-finding-test.true ∙ ap (λ (g : Finding). g ∷ drop (i + 1) found) (sym c.finding-item.is)) c.in_ok-add_told.ensures c.loop-finding.invariant
