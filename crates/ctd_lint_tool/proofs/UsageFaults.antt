-- Which of the rules gives a fault.
use Rattle.ctd_lint_tool.proofs.Common.{ArePresetsOf, Err, HasNoPresets, IfErr, IsErr, IsErrAnd, IsLintFault, IsTaken, LintFault, List, None, Ok, Option, Preset, Result, Row, Some, TellsUnknown, Text}
use Rattle.ctd_lint_tool.proofs.Common.{UsageFault, all_of, ap, codes, first_of, found_in, inl, inr, is_some, lint_fault, subst, sym, true, unknown_in, ◌∙◌, ◌≡◌, ◌⊎◌}
use Rattle.ctd_lint_tool.specs.declared.command_line.LintFault.TheVariants as faults
use Rattle.ctd_arguments.specs.declared.setup.UsageFault.TheVariants as usage

-- what holds of a fault holds of what `?` returns for it
pub holds_on_return : {T : Type 0} (P : LintFault → Type 0) (f : LintFault) (q : Result T LintFault) → IsErr q × IsErrAnd q (λ e. e ≡ f) → P f → IfErr q P
holds_on_return P f (Ok x) is has = tt
holds_on_return P f (Err e) is has = subst P (sym is.1) has

-- a name that is there
is_there : (found : Option Text) (name : Text) → found ≡ Some name → is_some found ≡ true
is_there found name is = ap is_some is

-- clap found programs
pub named : (words : List Text) (rows : List Row) (programs : List Text) → rows ≡ found_in words → all_of (codes "PROGRAM") rows ≡ Some programs → is_some (all_of (codes "PROGRAM") (found_in words)) ≡ true
named words rows programs is are = ap is_some (sym (ap (all_of (codes "PROGRAM")) is) ∙ are)

module _ (words : List Text) (taken : IsTaken words) where
  -- no program is named, or memory ran out
  pub no_programs : (f : LintFault) (names : Option (List Text)) → names ≡ all_of (codes "PROGRAM") (found_in words) → (f ≡ faults.Memory) ⊎ ((f ≡ faults.Words) × (names ≡ None)) → IsLintFault words f
  no_programs f names is (inl memory) = inr memory
  no_programs f names is (inr bad) = inl (inr (taken.0, inr (taken.1, inl (subst (λ n. n ≡ None) is bad.1, bad.0))))

  module _ (named : is_some (all_of (codes "PROGRAM") (found_in words)) ≡ true) where
    -- no presets, or memory ran out
    pub no_presets : (u : UsageFault) (given : Option Text) → given ≡ first_of (codes "define") (found_in words) → (u ≡ usage.Memory) ⊎ ((u ≡ usage.BadPreset) × HasNoPresets given) → IsLintFault words (lint_fault u)
    no_presets u given is (inl memory) = inr (ap lint_fault memory)
    no_presets u given is (inr bad) = inl (inr (taken.0, inr (taken.1, inr (named, inl (subst HasNoPresets is bad.1, ap lint_fault bad.0)))))

    -- presets, and no kinds, or memory ran out
    pub no_kinds : (f : LintFault) (define given : Option Text) (presets : List Preset) → define ≡ first_of (codes "define") (found_in words) → given ≡ first_of (codes "ignore") (found_in words)
        → ArePresetsOf define presets → (f ≡ faults.Memory) ⊎ TellsUnknown (unknown_in given) f → IsLintFault words f
    no_kinds f define given presets defines is are (inl memory) = inr memory
    no_kinds f define given presets defines is are (inr bad) =
        let presets_are : (presets : List Preset) × ArePresetsOf (first_of (codes "define") (found_in words)) presets = (presets, subst (λ v. ArePresetsOf v presets) defines are) in
        let told = subst (λ v. TellsUnknown (unknown_in v) f) is bad in
        inl (inr (taken.0, inr (taken.1, inr (named, inr (presets_are, inl (is_there _ told.0 told.1, told))))))
