-- Lists, part by part.
use Rattle.std.proofs.Common.{◌≡◌, ◌<◌, ℕ, suc, ◌+◌, Bool, true, false, cond, nat_eq, List, [], ◌∷◌, length, take, drop, get_or, refl, ap, sym, ◌∙◌, arith, Some}
use Rattle.std.specs.Prelude.{slice_get}
use Rattle.std.specs.List.{common_prefix_len}
use Rattle.std.proofs.lemmas.Bool.Decides.{nat_tests}
use Rattle.std.proofs.lemmas.List.{at_drop_more}

-- what is left of a list begins with this element
pub left_at : {A : Type 0} (xs : List A) (i : ℕ) (x : A) → i < length xs → x ≡ get_or xs i x → drop i xs ≡ x ∷ drop (i + 1) xs
left_at xs i x within is = at_drop_more (λ l. l) xs i x within ∙ ap (λ y. y ∷ drop (i + 1) xs) (sym is)

none_by : (b : Bool) (c x k l : ℕ) → nat_eq c x ≡ b → cond b (1 + k) 0 ≡ 0 → cond b (1 + l) 0 ≡ 0
none_by true c x k l is none = let never : 1 + k ≡ 0 = none in omega (arith, never)
none_by false c x k l is none = refl

-- two lists that agree in no element differ in the first
pub first_differs : (wanted run held rest : List ℕ) (byte : ℕ) → take (length run) held ≡ run → 0 < length run → slice_get held 0 ≡ Some byte → common_prefix_len nat_eq wanted run ≡ 0 → common_prefix_len nat_eq wanted (byte ∷ rest) ≡ 0
first_differs [] run held rest byte front some first none = refl
first_differs (c ∷ cs) [] held rest byte front some first none = omega (arith, some)
first_differs (c ∷ cs) (x ∷ xs) [] rest byte front some first none = cc
first_differs (c ∷ cs) (x ∷ xs) (h ∷ hs) rest byte front some first none =
    let e : h ≡ x = cc in
    let f : h ≡ byte = cc in
    let same : nat_eq c x ≡ nat_eq c byte = ap (nat_eq c) (sym e ∙ f) in
    none_by (nat_eq c byte) c byte (common_prefix_len nat_eq cs xs) (common_prefix_len nat_eq cs rest) refl (ap (λ b. cond b (1 + common_prefix_len nat_eq cs xs) 0) (sym same) ∙ none)

pub no_bytes : (wanted : List ℕ) → common_prefix_len nat_eq wanted [] ≡ 0
no_bytes [] = refl
no_bytes (c ∷ cs) = refl

same_front_by : (b : Bool) (c x : ℕ) (cs xs : List ℕ) → nat_eq c x ≡ b → take (common_prefix_len nat_eq cs xs) cs ≡ take (common_prefix_len nat_eq cs xs) xs
    → take (cond b (1 + common_prefix_len nat_eq cs xs) 0) (c ∷ cs) ≡ take (cond b (1 + common_prefix_len nat_eq cs xs) 0) (x ∷ xs)
same_front_by true c x cs xs is rest =
    let same : c ≡ x = grind (arith, nat_tests) in
    let one : 1 + common_prefix_len nat_eq cs xs ≡ suc (common_prefix_len nat_eq cs xs) = omega arith in
    ap (λ k. take k (c ∷ cs)) one ∙ ap (λ y. y ∷ take (common_prefix_len nat_eq cs xs) cs) same ∙ ap (λ ys. x ∷ ys) rest ∙ sym (ap (λ k. take k (x ∷ xs)) one)
same_front_by false c x cs xs is rest = refl

-- the elements in which two lists agree
pub same_front : (wanted bytes : List ℕ) → take (common_prefix_len nat_eq wanted bytes) wanted ≡ take (common_prefix_len nat_eq wanted bytes) bytes
same_front [] bytes = refl
same_front (c ∷ cs) [] = refl
same_front (c ∷ cs) (x ∷ xs) = same_front_by (nat_eq c x) c x cs xs refl (same_front cs xs)
