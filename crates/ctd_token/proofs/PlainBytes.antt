-- What ends the plain bytes of a string.
use Rattle.std.proofs.Common.{◌≡◌, ℕ, true, false, List, length, get_or, Option, Some, None, sym, arith}
use Rattle.std.specs.Prelude.{unwrap_or}
use Rattle.std.specs.List.{prefix_len}
use Rattle.std.proofs.lemmas.List.Sums.{prefix_len_is}
use Rattle.memchr.specs.Find.{is_byte2, IsFirstByte}
use Rattle.ctd_token.specs.inner.StringLiteral.{is_plain}

plain_byte : (b : ℕ) → ¬ (is_byte2 34 92 b ≡ true) → is_plain b ≡ true
plain_byte b other = grind arith

not_plain : (b : ℕ) → is_byte2 34 92 b ≡ true → is_plain b ≡ false
not_plain b is = grind arith

-- the first quote or backslash ends what is plain
pub plain_before : (xs : List ℕ) (r : Option ℕ) → IsFirstByte (is_byte2 34 92) xs r → unwrap_or r (length xs) ≡ prefix_len is_plain xs
plain_before xs None none = sym (prefix_len_is is_plain xs (length xs) 0 (omega arith) (λ k lt. plain_byte (get_or xs k 0) (none k (omega arith) lt)) (λ lt. absurd (omega arith)))
plain_before xs (Some k) first =
    let found = first.0 in
    sym (prefix_len_is is_plain xs k 0 (omega (arith, found.high)) (λ j lt. plain_byte (get_or xs j 0) (found.before j (omega arith) lt)) (λ lt. not_plain (get_or xs k 0) first.1))
