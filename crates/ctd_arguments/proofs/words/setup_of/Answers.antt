use Rattle.std.proofs.Common.{◌≡◌, ◌∙◌, ap, sym, option_map, Option, None, Some, refl, true, false, is_some, unwrap_or, List, ℕ, subst, codes}
use Rattle.std.specs.Borrow.{Bor}
use Rattle.clap.specs.Words.{Text, first_of, found_of}
use Rattle.clap.proofs.WalkLemmas.{first_value-rows}
use Rattle.ctd_arguments.specs.Usage.{ArePresetsOf, IsStepLimitOf, generates, no_memory, option_value}
use Rattle.ctd_arguments.specs.declared.setup.UsageFault.TheVariants.{Memory}
use Rattle.ctd_arguments.specs.calls.Usage.{is_on}
use Rattle.ctd_arguments.specs.inner.Usage.{file_of, mode_by}
use Rattle.ctd_arguments.proofs.UsageFaults.{holds_on_return, no_presets, no_steps}
use Rattle.ctd_arguments.proofs.words.setup_of.Goals as goal

-- a value that is there is the text that is lent
lent : (o : Option (Bor (List ℕ))) (v : Option Text) (other : Bor (List ℕ)) → option_map (λ t. t.now) o ≡ v → is_some v ≡ true → v ≡ Some (unwrap_or o other).now
lent None v other is given = let none : is_some v ≡ false = ap is_some (sym is) in cc
lent (Some t) v other is given = sym is

pub returns-then-is_set-clause-fault : goal.returns-then-is_set-clause-fault
returns-then-is_set-clause-fault c = λ words found. generates found.0 (sym (c.is_set.ensures ∙ ap (is_on (codes "generate")) found.1) ∙ c.if-is_set.true)

pub returns-in_err-presets-clause-fault : goal.returns-in_err-presets-clause-fault
returns-in_err-presets-clause-fault c =
    holds_on_return _ c.in_err-presets.field-0.0 c.from_residual.result c.from_residual.ensures (λ words found.
    let rows = found.1 in
    no_presets words (found.0, sym (c.is_set.ensures ∙ ap (is_on (codes "generate")) rows) ∙ c.if-is_set.false) _ _ (c.value_of.ensures ∙ ap (first_of (codes "define")) rows) c.in_err-presets.ensures)

pub returns-in_err-steps-clause-fault : goal.returns-in_err-steps-clause-fault
returns-in_err-steps-clause-fault c =
    holds_on_return _ c.in_err-steps.field-0.0 c.from_residual-in_err-steps.result c.from_residual-in_err-steps.ensures (λ words found.
    let rows = found.1 in
    no_steps words (found.0, sym (c.is_set.ensures ∙ ap (is_on (codes "generate")) rows) ∙ c.if-is_set.false) _ _ _ c.in_ok-presets.presets
    (c.value_of.ensures ∙ ap (first_of (codes "define")) rows) (c.value_of-2.ensures ∙ ap (first_of (codes "max-steps")) rows) c.in_ok-presets.ensures c.in_err-steps.ensures)

pub returns-in_err-copy-clause-fault : goal.returns-in_err-copy-clause-fault
returns-in_err-copy-clause-fault c = holds_on_return _ Memory c.from_residual-in_err-copy.result c.from_residual-in_err-copy.ensures (λ words found. no_memory)

pub returns-in_err-file_named-clause-fault : goal.returns-in_err-file_named-clause-fault
returns-in_err-file_named-clause-fault c = holds_on_return _ Memory c.from_residual-in_err-file_named.result c.from_residual-in_err-file_named.ensures (λ words found. no_memory)

pub returns-clause-setup : goal.returns-clause-setup
returns-clause-setup c = λ words found.
    let rows = found.1 in
    let named : is_some (option_value words (codes "PROGRAM")) ≡ true =
    ap is_some (sym (first_value-rows (found_of c.args.matches.now) (codes "PROGRAM") ∙ ap (first_of (codes "PROGRAM")) rows)) ∙ c.requires.named in
    let copied = c.in_ok-copy.ensures.equal ∙ c.as_bytes.ensures.value ∙ ap (λ (t : Bor (List ℕ)). t.now) c.unwrap_or-program.ensures in
    record {
      asks = (found.0, sym (c.is_set.ensures ∙ ap (is_on (codes "generate")) rows) ∙ c.if-is_set.false);
      program = subst (λ name. option_value words (codes "PROGRAM") ≡ Some name) (sym copied)
          (lent c.value_of-3.result _ _ (c.value_of-3.ensures ∙ ap (first_of (codes "PROGRAM")) rows) named);
      testdata = c.in_ok-file_named.ensures ∙ ap file_of (c.value_of-4.ensures ∙ ap (first_of (codes "TESTDATA")) rows);
      presets = subst (λ v. ArePresetsOf v c.in_ok-presets.presets) (c.value_of.ensures ∙ ap (first_of (codes "define")) rows) c.in_ok-presets.ensures;
      mode = c.mode_of.ensures ∙ ap (λ r. mode_by (is_on (codes "whitespace-ok") r)) rows;
      quiet = c.is_set-2.ensures ∙ ap (is_on (codes "quiet")) rows;
      bytes = refl;
      steps = subst (λ v. IsStepLimitOf v c.in_ok-steps.steps) (c.value_of-2.ensures ∙ ap (first_of (codes "max-steps")) rows) c.in_ok-steps.ensures;
    }
