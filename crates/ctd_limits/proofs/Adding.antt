-- Sums and differences of bounds.
use Rattle.std.proofs.Common.{List, None, Option, Some, ap, arith, pos, subst, sym, ℕ, ℤ, ◌*ℤ◌, ◌+◌, ◌∙◌, ◌≡◌}
use Rattle.std.proofs.lemmas.Int.{ints}
use Rattle.std.specs.Borrow.{Bor}
use Rattle.ctd_store.specs.Store.{Bindings}
use Rattle.ctd_store.specs.declared.value.Value.TheVariants as values
use Rattle.ctd_elements.specs.declared.fact.Term.{Term}
use Rattle.ctd_elements.specs.calls.Bounds.{IsNumber, alone}
use Rattle.ctd_elements.proofs.Multiples.{sum_times}
use Rattle.ctd_limits.specs.inner.Adding.{AddsTerms, SubtractsTerms}

-- two terms of one name
same_name : (names : List (Bor (List ℕ))) (h : Bindings) (i j : ℕ) (p q : ℤ) → i ≡ j → alone names h i ≡ Some (values.Int p) → alone names h j ≡ Some (values.Int q) → p ≡ q
same_name names h i j p q same left right = let also : alone names h i ≡ Some (values.Int q) = subst (λ k. alone names h k ≡ Some (values.Int q)) (sym same) right in cc (left, also)

pub more_terms : (s t : Term) (times : ℕ) → s.name ≡ t.name → times ≡ s.times + t.times → AddsTerms (Some s) (Some t) (Some (record { name = s.name; times = times }))
more_terms s t times same sum names h c d x y is_x is_y =
    let one : is_x.0 ≡ is_y.0 = same_name names h s.name t.name is_x.0 is_y.0 same is_x.1 is_y.1 in
    let whole : (pos times *ℤ is_x.0) ≡ (pos (s.times + t.times) *ℤ is_x.0) = ap (λ k. pos k *ℤ is_x.0) sum in
    let right : (pos t.times *ℤ is_x.0) ≡ (pos t.times *ℤ is_y.0) = ap (λ k. pos t.times *ℤ k) one in
    (is_x.0, is_x.1, omega (arith, ints, whole, right, sum_times s.times t.times is_x.0, is_x.2, is_y.2))

pub less_terms : (s t : Term) (times : ℕ) → s.name ≡ t.name → times + t.times ≡ s.times → SubtractsTerms (Some s) (Some t) (Some (record { name = s.name; times = times }))
less_terms s t times same sum names h c d x y is_x is_y =
    let one : is_x.0 ≡ is_y.0 = same_name names h s.name t.name is_x.0 is_y.0 same is_x.1 is_y.1 in
    let whole : (pos s.times *ℤ is_x.0) ≡ (pos (times + t.times) *ℤ is_x.0) = ap (λ k. pos k *ℤ is_x.0) (sym sum) in
    let right : (pos t.times *ℤ is_x.0) ≡ (pos t.times *ℤ is_y.0) = ap (λ k. pos t.times *ℤ k) one in
    (is_x.0, is_x.1, omega (arith, ints, whole, right, sum_times times t.times is_x.0, is_x.2, is_y.2))

pub equal_terms : (s t : Term) → s.name ≡ t.name → t.times ≡ s.times → SubtractsTerms (Some s) (Some t) None
equal_terms s t same equal names h c d x y is_x is_y =
    let one : is_x.0 ≡ is_y.0 = same_name names h s.name t.name is_x.0 is_y.0 same is_x.1 is_y.1 in
    let left : (pos t.times *ℤ is_y.0) ≡ (pos s.times *ℤ is_x.0) = ap (λ k. pos k *ℤ is_y.0) equal ∙ ap (λ k. pos s.times *ℤ k) (sym one) in
    omega (arith, ints, left, is_x.2, is_y.2)

pub no_terms_less : (a b : Option Term) → b ≡ None → SubtractsTerms a b a
no_terms_less None b none names h c d x y is_x is_y =
    let number : y ≡ d = subst (λ o. IsNumber names h o d y) none is_y in
    omega (arith, ints, number, is_x)
no_terms_less (Some s) b none names h c d x y is_x is_y =
    let number : y ≡ d = subst (λ o. IsNumber names h o d y) none is_y in
    (is_x.0, is_x.1, omega (arith, ints, number, is_x.2))
