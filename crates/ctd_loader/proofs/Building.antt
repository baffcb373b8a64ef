-- Patterns that are built one after the other.
use Rattle.std.proofs.Common.{◌≡◌, ◌≢◌, ◌↔◌, ◌<◌, ◌+◌, ℕ, List, [], ◌∷◌, ◌++◌, length, take, drop, get_or, Result, Ok, Err, IfErr, Bor, IsUtf8, refl, sym, ap, ◌∙◌, subst}
use Rattle.std.proofs.lemmas.List.{at_drop_more, take_more, take-append-drop, map-append}
use Rattle.std.proofs.lemmas.List.Elements.{All-push}
use Rattle.std.specs.Result.{IsErr, IsErrAnd}
use Rattle.ctd_token.specs.declared.fault.LoadFault.{LoadFault}
use Rattle.ctd_token.specs.declared.fault.LoadKind.TheVariants.{Memory}
use Rattle.ctd_program.specs.declared.tree.PatternLiteral.{PatternLiteral}
use Rattle.ctd_program.specs.declared.tree.RegexArguments.{RegexArguments}
use Rattle.ctd_pattern.specs.declared.pattern.PatternFault.{PatternFault}
use Rattle.ctd_pattern.specs.declared.pattern.PatternFault.TheVariants.{NotText, NotPattern, TooLarge}
use Rattle.ctd_pattern.specs.declared.pattern.PatternFault.TheVariants as patterns
use Rattle.ctd_pattern.specs.Pattern.{IsPattern, IsNoPattern}
use Rattle.ctd_loader.specs.inner.Literals.{literals_at, IsBadLiteral}
use Rattle.ctd_loader.specs.Loading.{ArePatterns, IsBadPattern, IsUnbuilt}

-- what is left of the literals begins with this one
left_at : (xs : List (Bor RegexArguments)) (i : ℕ) (x : Bor RegexArguments) → i < length xs → x ≡ get_or xs i x → drop i xs ≡ x ∷ drop (i + 1) xs
left_at xs i x within is = at_drop_more (λ y. y) xs i x within ∙ ap (λ y. y ∷ drop (i + 1) xs) (sym is)

-- one literal more
one_more : (xs : List (Bor RegexArguments)) (i : ℕ) (x : Bor RegexArguments) → i < length xs → x ≡ get_or xs i x → literals_at (take (i + 1) xs) ≡ literals_at (take i xs) ++ x.now.literal ∷ []
one_more xs i x within is = ap literals_at (take_more xs i x within ∙ ap (λ y. take i xs ++ y ∷ []) (sym is)) ∙ map-append (λ y. y.now.literal) (take i xs) (x ∷ [])

pub more_patterns : (xs : List (Bor RegexArguments)) (i : ℕ) (x : Bor RegexArguments) → i < length xs → x ≡ get_or xs i x → ArePatterns (literals_at (take i xs)) → IsPattern x.now.literal.bytes → ArePatterns (literals_at (take (i + 1) xs))
more_patterns xs i x within is so_far here =
    let P : List PatternLiteral → Type 0 = λ y. ArePatterns y in
    subst P (sym (one_more xs i x within is)) (All-push (λ l. IsPattern l.bytes) (literals_at (take i xs)) x.now.literal so_far here)

-- the answers of `Pattern::read` but `Memory`
pub unbuilt_by : {X : Type 0} (literal : List ℕ) (why : PatternFault) → ((◌≡◌ {A = Result X PatternFault} (Err why) (Err NotText)) ↔ ¬ (IsUtf8 literal)) → (◌≡◌ {A = Result X PatternFault} (Err why) (Err NotPattern) → IsNoPattern literal)
    → (◌≡◌ {A = Result X PatternFault} (Err why) (Err TooLarge) → IsPattern literal) → why ≢ patterns.Memory → IsUnbuilt literal why
unbuilt_by literal NotText text pattern large other = text.0 refl
unbuilt_by literal NotPattern text pattern large other = pattern refl
unbuilt_by literal TooLarge text pattern large other = large refl
unbuilt_by literal patterns.Memory text pattern large other = absurd (other refl)

-- the first of which no pattern is built, and the fault that `?` returns
pub bad_at : (xs : List (Bor RegexArguments)) (i : ℕ) (x : Bor RegexArguments) (f : LoadFault) → i < length xs → x ≡ get_or xs i x → ArePatterns (literals_at (take i xs)) → IsBadLiteral x.now.literal f → IsBadPattern (literals_at xs) f
bad_at xs i x f within is so_far bad = record {
  kind = ap (λ y. y.kind) bad.fault;
  before = literals_at (take i xs);
  literal = x.now.literal;
  after = literals_at (drop (i + 1) xs);
  split = ap literals_at (sym (take-append-drop i xs) ∙ ap (λ y. take i xs ++ y) (left_at xs i x within is)) ∙ map-append (λ y. y.now.literal) (take i xs) (x ∷ drop (i + 1) xs);
  patterns = so_far;
  why = bad.why;
  unbuilt = bad.unbuilt;
  place = ap (λ y. y.place) bad.fault;
}

pub bad_on_return : {A : Type 0} (xs : List (Bor RegexArguments)) (i : ℕ) (x : Bor RegexArguments) (f : LoadFault) (q : Result A LoadFault) → IsErr q × IsErrAnd q (λ e. e ≡ f) → i < length xs → x ≡ get_or xs i x
    → ArePatterns (literals_at (take i xs)) → (f.kind ≢ Memory → IsBadLiteral x.now.literal f) → IfErr q (λ g. g.kind ≢ Memory → IsBadPattern (literals_at xs) g)
bad_on_return xs i x f (Ok y) is within at so_far bad = tt
bad_on_return xs i x f (Err e) is within at so_far bad =
    λ other. subst (λ g. IsBadPattern (literals_at xs) g) (sym is.1) (bad_at xs i x f within at so_far (bad (λ memory. other (ap (λ g. g.kind) is.1 ∙ memory))))
