-- Bytes that are parted at one of them.
use Rattle.std.proofs.Common.{◌≡◌, ℕ, suc, ◌+◌, ◌<◌, List, [], ◌∷◌, ◌++◌, length, take, drop, get_or, sym, ap, ◌∙◌, arith, length-append}
use Rattle.std.proofs.Math.Seq.{drop-cons, get_or-append_seam, drop-append-add, take-add}

-- the byte behind a front, and what is behind that
pub behind_front : (bytes front rest : List ℕ) (b n : ℕ) → bytes ≡ front ++ b ∷ rest → length front ≡ n → (n < length bytes) × (get_or bytes n 0 ≡ b) × (drop (n + 1) bytes ≡ rest)
behind_front bytes front rest b n is long = (
  omega (arith, ap length is, length-append front (b ∷ rest), long),
  ap (λ k. get_or bytes k 0) (sym long) ∙ ap (λ l. get_or l (length front) 0) is ∙ get_or-append_seam front b rest 0,
  ap (λ k. drop (k + 1) bytes) (sym long) ∙ ap (drop (length front + 1)) is ∙ drop-append-add front (b ∷ rest) 1,
)

-- the first bytes, with one of them between two parts
pub take_past : (bytes : List ℕ) (b n m : ℕ) → n < length bytes → get_or bytes n 0 ≡ b → take (n + 1 + m) bytes ≡ take n bytes ++ b ∷ take m (drop (n + 1) bytes)
take_past bytes b n m lt is =
    let size : n + 1 + m ≡ n + suc m = omega arith in
    let one : suc n ≡ n + 1 = omega arith in
    let next : drop n bytes ≡ b ∷ drop (n + 1) bytes = drop-cons bytes n 0 lt ∙ (λ i. is i ∷ drop (one i) bytes) in
    ap (λ k. take k bytes) size ∙ take-add n (suc m) bytes ∙ ap (λ l. take n bytes ++ take (suc m) l) next

-- and up to it, with it
pub take_with : (bytes : List ℕ) (b n : ℕ) → n < length bytes → get_or bytes n 0 ≡ b → take (n + 1) bytes ≡ take n bytes ++ b ∷ []
take_with bytes b n lt is =
    let size : n + 1 ≡ n + 1 + 0 = omega arith in
    ap (λ k. take k bytes) size ∙ take_past bytes b n 0 lt is
