-- A text that is written in parts.
use Rattle.ctd_lint_report.proofs.Common.{List, OnOk, Result, ap, append_assoc, subst, ◌++◌, ◌∙◌, ◌≡◌}

module _ {A E X : Type 0} (r : Result A E) (old between new : List X) where
  -- one part, and then what is left
  pub then_more : (part more : List X) → between ≡ old ++ part → OnOk r (new ≡ between ++ more) → OnOk r (new ≡ old ++ (part ++ more))
  then_more part more is h = subst (λ (text : List X). OnOk r (new ≡ text)) (ap (λ (text : List X). text ++ more) is ∙ append_assoc old part more) h
