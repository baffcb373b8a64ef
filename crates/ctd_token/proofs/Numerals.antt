-- The numbers that digits spell.
use Rattle.std.proofs.Common.{◌≡◌, ℕ, zero, suc, ◌+◌, ◌-◌, ◌*◌, ◌^◌, ◌≤◌, ◌<◌, List, [], ◌∷◌, ◌++◌, length, take, get_or, true, ap, ◌∙◌, arith, add-one, get_or-take, length-append, length-take-le}
use Rattle.std.specs.List.{prefix_len}
use Rattle.std.proofs.Math.Nat.{mul_assoc, mul-le-mul_left, pow-suc, pow-le-pow_right}
use Rattle.std.proofs.lemmas.List.{length-take, take_more}
use Rattle.std.proofs.lemmas.List.Sums.{prefix_len-le-length, prefix_len_passes}
use Rattle.std.specs.Char.{is_ascii_digit}
use Rattle.ctd_token.specs.Cut.{digits_value}

-- one more digit behind others
pub digits_value-append : (bs : List ℕ) (b : ℕ) → digits_value (bs ++ b ∷ []) ≡ digits_value bs * 10 + (b - 48)
digits_value-append [] b = omega arith
digits_value-append (c ∷ bs) b =
    let e : 10 ^ length (bs ++ b ∷ []) ≡ 10 ^ length bs * 10 =
    ap (λ n. 10 ^ n) (length-append bs (b ∷ []) ∙ add-one (length bs)) ∙ pow-suc 10 (length bs) in
    rw (e, digits_value-append bs b) (omega (arith, mul_assoc (c - 48) (10 ^ length bs) 10))

digits_value-take-le : (i : ℕ) (bs : List ℕ) → digits_value (take i bs) ≤ digits_value bs
digits_value-take-le zero bs = omega arith
digits_value-take-le (suc i) [] = omega arith
digits_value-take-le (suc i) (b ∷ bs) =
    let shorter : length (take i bs) ≤ length bs = omega (arith, length-take i bs) in
    let power : 10 ^ length (take i bs) ≤ 10 ^ length bs = pow-le-pow_right (omega arith) shorter in
    omega (arith, mul-le-mul_left (b - 48) power, digits_value-take-le i bs)

-- the next digit behind those before it
pub decimal_more : (bs : List ℕ) (i : ℕ) → i < length bs → digits_value (take (i + 1) bs) ≡ 10 * digits_value (take i bs) + (get_or bs i 0 - 48)
decimal_more bs i lt = omega (arith, ap digits_value (take_more bs i 0 lt), digits_value-append (take i bs) (get_or bs i 0))

-- the digits up to the next one spell no more than all do
pub decimal_more_le : (bs : List ℕ) (i : ℕ) → i < length bs → 10 * digits_value (take i bs) + (get_or bs i 0 - 48) ≤ digits_value bs
decimal_more_le bs i lt = omega (arith, decimal_more bs i lt, digits_value-take-le (i + 1) bs)

-- the longest row of digits holds digits alone
pub digits_alone : (n : ℕ) (bs : List ℕ) → n ≡ prefix_len is_ascii_digit bs → (k d : ℕ) → k < length (take n bs) → is_ascii_digit (get_or (take n bs) k d) ≡ true
digits_alone n bs is k d lt =
    let within : n ≤ length bs = omega (arith, is, prefix_len-le-length is_ascii_digit bs) in
    let below : k < n = omega (arith, lt, length-take-le n bs within) in
    ap is_ascii_digit (get_or-take n bs k d below) ∙ prefix_len_passes is_ascii_digit bs k d (omega (arith, below, is))
