use Rattle.ctd_lint_tool.proofs.Common.{AreRemarks, LeavesRun, ap, drop, drop_more, no_program, rules, stand, sym, ◌+◌, ◌∙◌, ◌∷◌}
use Rattle.ctd_lint_tool.proofs.RunLemmas.{goes_on, holds_on_return, stops}
use Rattle.ctd_lint_tool.proofs.files.lint_all.Goals as goal

pub loop-name-init : goal.loop-name-init
loop-name-init g c = record { out_works = c.requires.out_works; err_works = c.requires.err_works; linted = no_program }

pub loop-name-preserved : goal.loop-name-preserved
loop-name-preserved g c = record {
  out_works = c.in_ok-own.ensures.written.2.out_text.works;
  err_works = c.in_ok-own.ensures.written.2.err_text.works;
  linted = goes_on _ _ _ _ _ _ _ _ _ _
      (drop_more c.args.names.now c.loop-name.name-index _ c.loop-name-test.true ∙ ap (λ x. x ∷ drop (c.loop-name.name-index + 1) c.args.names.now) (sym c.name-item.is))
      c.loop-name.invariant.linted _ c.max-status.result (search rules) c.in_ok-own.ensures.written;
}

pub returns-in_err-own-clause-run : goal.returns-in_err-own-clause-run
returns-in_err-own-clause-run g c = holds_on_return
    (λ r. LeavesRun (record { opens = g.P.Programs.opens_program; asks = g.P.Programs.asks_for; closes = g.P.Programs.closes_program; source = g.P.Program.Source; out = g.O.Sink; err = g.E.Sink; remarks = AreRemarks }) c.args.setup.now c.args.names.now (stand c.args.programs.now c.args.out.now c.args.err.now) (stand c.lint_named.new.programs c.lint_named.new.out c.lint_named.new.err) r)
    c.in_err-own.field-0.0 c.from_residual.result c.from_residual.ensures
    (stops _ _ _ _ _ _ _ _ _ _
    (drop_more c.args.names.now c.loop-name.name-index _ c.loop-name-test.true ∙ ap (λ x. x ∷ drop (c.loop-name.name-index + 1) c.args.names.now) (sym c.name-item.is))
    c.loop-name.invariant.linted _ c.in_err-own.ensures.written c.in_err-own.ensures.asked)
