-- The exponent with which a base gives a number.
use Rattle.std.proofs.Common.{arith, int_lt, true, codes, None, Some, ap, refl, unsigned_abs, ℕ, ℤ, pos, negsuc, ◌++◌, zero, suc, ◌*◌, ◌<◌, ◌^◌, ◌≡◌, ◌≤◌}
use Rattle.std.proofs.lemmas.Bool.{ltb-true}
use Rattle.std.proofs.Math.Nat.{mul-le-mul_left, one-le-pow, pow-le-pow_right, pow-suc, pow-succ'}
use Rattle.ctd_lint_report.specs.calls.Numbers.{exponent_below, integer_text, natural_text}

-- a number of which the exponent is known has no other
pub only_exponent : (base n k i : ℕ) → 2 ≤ base → base ^ k ≤ n → n < base * base ^ k → base ^ i ≡ n → i ≡ k
only_exponent base n k i large above below is =
    let low : i < k → base ^ suc i ≤ base ^ k = λ l. pow-le-pow_right (omega (arith, large)) l in
    let high : k < i → base ^ suc k ≤ base ^ i = λ l. pow-le-pow_right (omega (arith, large)) l in
    let some : 1 ≤ base ^ i = one-le-pow i base (omega (arith, large)) in
    let more : base ^ i * 2 ≤ base ^ i * base = mul-le-mul_left (base ^ i) large in
    grind (arith, low, high, some, more, above, below, is, pow-suc base i, pow-succ' base k)

-- one is found that is below the limit and no less than the least
pub exponent_found : (m least base n k : ℕ) → k < m → least ≤ k → base ^ k ≡ n → ((i : ℕ) → base ^ i ≡ n → i ≡ k) → exponent_below m least base n ≡ Some k
exponent_found zero least base n k below no_less is only = grind arith
exponent_found (suc m) least base n k below no_less is only =
    let more = exponent_found m least base n k in
    let this = only m in
    grind (arith, more, this)

-- none is found where there is none
pub no_exponent : (m least base n : ℕ) → ((i : ℕ) → least ≤ i → base ^ i ≡ n → ⊥) → exponent_below m least base n ≡ None
no_exponent zero least base n none = refl
no_exponent (suc m) least base n none =
    let more = no_exponent m least base n none in
    let this = none m in
    grind (arith, more, this)

-- a negative number, by its absolute value
pub negative_text : (z : ℤ) (n : ℕ) → int_lt z (pos 0) ≡ true → n ≡ unsigned_abs z → codes "-" ++ natural_text (codes "+1") n ≡ integer_text z
negative_text (pos k) n below is = absurd (omega (arith, ltb-true k 0 below))
negative_text (negsuc k) n below is = ap (λ (m : ℕ). codes "-" ++ natural_text (codes "+1") m) is
