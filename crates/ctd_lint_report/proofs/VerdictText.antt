-- What traps say of verdicts where none is shown by default.
use Rattle.ctd_lint_report.proofs.Common.{Bool, List, None, OnOk, Result, Trap, ap, condition_text, every_text, false, if◌then◌else◌, places_behind, places_text, some_element, some_shape}
use Rattle.ctd_lint_report.proofs.Common.{some_unconditional, subst, sym, verdict_text, ℕ, ◌++◌, ◌∙◌, ◌≡◌}

module _ {A E : Type 0} (r : Result A E) (traps : List Trap) (shown : Bool) (text new : List ℕ) (is : shown ≡ some_unconditional traps) where
  -- the text, by whether some are shown by default
  abbrev by : Bool → List ℕ
  by b = if b then places_text (places_behind None traps) else every_text (condition_text (some_element traps) (some_shape traps))

  -- none is
  pub verdict_every : (condition : List ℕ) → shown ≡ false → condition ≡ condition_text (some_element traps) (some_shape traps) → OnOk r (new ≡ text ++ every_text condition) → OnOk r (new ≡ text ++ verdict_text traps)
  verdict_every condition none says h =
      subst (λ t. OnOk r (new ≡ text ++ t)) (ap every_text says ∙ ap by (sym none ∙ is)) h
