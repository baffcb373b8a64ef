use Rattle.ctd_lint_tool.proofs.Common.{AreKindsOf, ArePresetsOf, all_of, ap, codes, first_of, form_by, is_on, lint_fault, subst, sym, ◌∙◌}
use Rattle.ctd_lint_tool.proofs.UsageFaults.{holds_on_return, named, no_kinds, no_presets, no_programs}
use Rattle.ctd_lint_tool.proofs.command_line.setup_of.Goals as goal

pub returns-in_err-programs-clause-fault : goal.returns-in_err-programs-clause-fault
returns-in_err-programs-clause-fault c =
    holds_on_return _ c.in_err-programs.field-0.0 c.from_residual.result c.from_residual.ensures (λ words found.
    no_programs words found.0 _ _ (ap (all_of (codes "PROGRAM")) found.1) c.in_err-programs.ensures)

pub returns-in_err-presets-clause-fault : goal.returns-in_err-presets-clause-fault
returns-in_err-presets-clause-fault c =
    holds_on_return _ (lint_fault c.in_err-presets.field-0.0) c.from_residual-in_err-presets.result c.from_residual-in_err-presets.ensures (λ words found.
    no_presets words found.0 (named words _ _ found.1 c.in_ok-programs.ensures) _ _ (c.value_of.ensures ∙ ap (first_of (codes "define")) found.1) c.in_err-presets.ensures)

pub returns-in_err-ignored-clause-fault : goal.returns-in_err-ignored-clause-fault
returns-in_err-ignored-clause-fault c =
    holds_on_return _ c.in_err-ignored.field-0.0 c.from_residual-in_err-ignored.result c.from_residual-in_err-ignored.ensures (λ words found.
    no_kinds words found.0 (named words _ _ found.1 c.in_ok-programs.ensures) _ _ _ c.in_ok-presets.presets
    (c.value_of.ensures ∙ ap (first_of (codes "define")) found.1) (c.value_of-2.ensures ∙ ap (first_of (codes "ignore")) found.1) c.in_ok-presets.ensures c.in_err-ignored.ensures.fault)

pub returns-clause-setup : goal.returns-clause-setup
returns-clause-setup c = λ words found. record {
  taken = found.0;
  programs = sym (ap (all_of (codes "PROGRAM")) found.1) ∙ c.in_ok-programs.ensures;
  presets = subst (λ v. ArePresetsOf v c.in_ok-presets.presets) (c.value_of.ensures ∙ ap (first_of (codes "define")) found.1) c.in_ok-presets.ensures;
  ignored = subst (λ v. AreKindsOf v c.in_ok-ignored.ignored.items) (c.value_of-2.ensures ∙ ap (first_of (codes "ignore")) found.1) c.in_ok-ignored.ensures.kinds;
  verdicts = c.is_set.ensures ∙ ap (is_on (codes "verdicts")) found.1;
  guarantees = c.is_set-2.ensures ∙ ap (is_on (codes "guarantees")) found.1;
  form = c.form_by.ensures ∙ ap form_by (c.is_set-3.ensures ∙ ap (is_on (codes "json")) found.1);
}
