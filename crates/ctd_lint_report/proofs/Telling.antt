-- The findings that may tell traps, picked out one after the other.
use Rattle.ctd_lint_report.proofs.Common.{Bool, Finding, List, Trap, [], ap, false, if◌then◌else◌, is_ignored, is_told, kept, refl, sym, ◌∙◌, ◌∷◌, ◌≡◌}
use Rattle.ctd_lint_report.specs.Prelude.{kind_row}
use Rattle.ctd_lint_report.specs.calls.Report.{tells}
use Rattle.ctd_lint_report.specs.declared.kind.LintKind.{LintKind}
use Rattle.ctd_lint_report.specs.declared.told.Told.{Told}
use Rattle.ctd_lint_report.specs.inner.Told.{is_among}
use Rattle.std.specs.Prelude.{true, ◌||◌}

-- whether a finding is of a kind that is left out
abbrev out : List LintKind → Finding → Bool
out ignored f = is_ignored ignored (kind_row f.remark.kind).name

one_side : (x y z : Bool) → ((x || y) || z) ≡ (x || (y || z))
one_side true y z = refl
one_side false y z = refl

or_none : (x y : Bool) → y ≡ false → x ≡ (x || y)
or_none true y none = refl
or_none false y none = sym none

-- what is picked out tells, with the findings that are left, what all findings tell
abbrev pub TellTheSame : List LintKind → List Told → List Finding → List Finding → Type 0
TellTheSame ignored told left found = (t : Trap) → (is_among told t || is_told (kept ignored left) t) ≡ is_told (kept ignored found) t

-- what one finding tells, and those behind it
first_or_rest : (b : Bool) (f : Finding) (rest : List Finding) (t : Trap) → is_told (if b then rest else f ∷ rest) t ≡ (is_told (if b then [] else f ∷ []) t || is_told rest t)
first_or_rest true f rest t = refl
first_or_rest false f rest t = ap (λ x. x || is_told rest t) (or_none (tells f t) false refl)

pub next_told : (ignored : List LintKind) (old new : List Told) (f : Finding) (left rest found : List Finding) → left ≡ f ∷ rest → ((t : Trap) → is_among new t ≡ (is_among old t || is_told (kept ignored (f ∷ [])) t))
    → TellTheSame ignored old left found → TellTheSame ignored new rest found
next_told ignored old new f left rest found is added so_far t =
    let others = is_told (kept ignored rest) t in
    ap (λ x. x || others) (added t) ∙ one_side (is_among old t) (is_told (kept ignored (f ∷ [])) t) others ∙ ap (λ x. is_among old t || x) (sym (first_or_rest (out ignored f) f (kept ignored rest) t))
    ∙ ap (λ l. is_among old t || is_told (kept ignored l) t) (sym is) ∙ so_far t
