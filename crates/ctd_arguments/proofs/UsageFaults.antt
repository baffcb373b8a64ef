-- Which fault the words have.
use Rattle.std.proofs.Common.{◌≡◌, ◌⊎◌, ◌∙◌, inl, inr, ℕ, List, map, Option, Result, Ok, Err, All, IsUtf8, ap, codes, sym, subst}
use Rattle.std.specs.Prelude.{IfErr}
use Rattle.std.specs.Result.{IsErr, IsErrAnd}
use Rattle.std.specs.Borrow.{Bor}
use Rattle.clap.specs.Words.{IsAmong, Text, fault_of}
use Rattle.clap.specs.declared.error.ErrorKind.{ErrorKind}
use Rattle.clap.specs.declared.error.ErrorKind.TheVariants.{OutOfMemory}
use Rattle.ctd_program.specs.declared.preset.Preset.{Preset}
use Rattle.ctd_arguments.specs.CommandLine.{checker}
use Rattle.ctd_arguments.specs.Usage.{ArePresetsOf, AsksForCheck, IsUsageFault, bad_preset, bad_steps, fault_by_kind, no_memory, no_text, not_taken, option_value}
use Rattle.ctd_arguments.specs.calls.Usage.{HasNoPresets}
use Rattle.ctd_arguments.specs.inner.Usage.{HasNoStepLimit}
use Rattle.ctd_arguments.specs.declared.setup.UsageFault.{UsageFault}
use Rattle.ctd_arguments.specs.declared.setup.UsageFault.TheVariants as fault

-- what holds of a fault holds of what `?` returns for it
pub holds_on_return : {T : Type 0} (P : UsageFault → Type 0) (f : UsageFault) (q : Result T UsageFault) → IsErr q × IsErrAnd q (λ e. e ≡ f) → P f → IfErr q P
holds_on_return P f (Ok x) is has = tt
holds_on_return P f (Err e) is has = subst P (sym is.1) has

-- words that are no texts, or memory ran out
pub no_texts : (words : List Text) (f : UsageFault) → (f ≡ fault.Words) ⊎ (f ≡ fault.Memory) → (f ≡ fault.Words → ¬ (All IsUtf8 words)) → IsUsageFault words f
no_texts words f (inl is) broken = subst (IsUsageFault words) (sym is) (no_text (broken is))
no_texts words f (inr is) broken = subst (IsUsageFault words) (sym is) no_memory

-- words that are texts, of which clap finds an error
pub by_clap : (words : List Text) (texts : List (Bor (List ℕ))) (kind : ErrorKind) (f : UsageFault) → map (λ t. t.now) texts ≡ words → All IsUtf8 words → f ≡ fault_by_kind kind
    → (kind ≡ OutOfMemory) ⊎ IsAmong kind (fault_of checker (map (λ t. t.now) texts)) → IsUsageFault words f
by_clap words texts kind f are utf8 is (inl out) = subst (IsUsageFault words) (sym (is ∙ ap fault_by_kind out)) no_memory
by_clap words texts kind f are utf8 is (inr among) = not_taken utf8 (kind, subst (λ ws. IsAmong kind (fault_of checker ws)) are among, sym is)

module _ (words : List Text) (asks : AsksForCheck words) where
  -- no presets, or memory ran out
  pub no_presets : (f : UsageFault) (given : Option Text) → given ≡ option_value words (codes "define") → (f ≡ fault.Memory) ⊎ ((f ≡ fault.BadPreset) × HasNoPresets given) → IsUsageFault words f
  no_presets f given is (inl memory) = subst (IsUsageFault words) (sym memory) no_memory
  no_presets f given is (inr bad) = subst (IsUsageFault words) (sym bad.0) (bad_preset asks (subst HasNoPresets is bad.1))

  -- presets, and no number of steps
  pub no_steps : (f : UsageFault) (define given : Option Text) (presets : List Preset) → define ≡ option_value words (codes "define") → given ≡ option_value words (codes "max-steps")
      → ArePresetsOf define presets → (f ≡ fault.BadSteps) × HasNoStepLimit given → IsUsageFault words f
  no_steps f define given presets defines is are bad =
      let presets_are = subst (λ v. ArePresetsOf v presets) defines are in
      subst (IsUsageFault words) (sym bad.0) (bad_steps presets asks presets_are (subst HasNoStepLimit is bad.1))
