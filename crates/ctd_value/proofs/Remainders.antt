-- What a division leaves.
use Rattle.std.proofs.Common.{◌≡◌, ◌<◌, ℕ, zero, suc, ◌%◌, true, false, ℤ, pos, negsuc, neg_ℤ, ◌<ℤ◌, Ok, Err, if◌then◌else◌, sym, subst, arith, unsigned_abs}
use Rattle.std.specs.Prelude.{int_div, int_rem}
use Rattle.std.proofs.lemmas.Int.{ints, quot-rem, rem_below}
use Rattle.ctd_outcome.specs.declared.reason.Fault.TheVariants.{Overflow}
use Rattle.ctd_value.specs.calls.Laws.{IsRemainder}
use Rattle.ctd_value.specs.Arithmetic.{is_value, in_range, remainder}

same_number : (z r : ℤ) → in_range z ≡ Ok r → z ≡ r
same_number z r = elim (is_value z) as (λ b. (if b then Ok z else Err Overflow) ≡ Ok r → z ≡ r) [
  | true ↦ λ is. cc
  | false ↦ λ is. absurd (cc)
]

no_more : (n : ℕ) → pos 0 <ℤ neg_ℤ (pos n) → ⊥
no_more n h = omega (arith, ints, h)

positive_is : (x y : ℤ) → pos 0 <ℤ int_rem x y → pos 0 <ℤ x
positive_is (pos zero) y h = absurd (omega (arith, ints, h))
positive_is (pos (suc a)) y h = omega (arith, ints)
positive_is (negsuc a) y h = absurd (no_more (suc a % unsigned_abs y) h)

negative_is : (x y : ℤ) → int_rem x y <ℤ pos 0 → x <ℤ pos 0
negative_is (pos a) y h = absurd (omega (arith, ints, h))
negative_is (negsuc a) y h = omega (arith, ints)

left : (x y r : ℤ) → 0 < unsigned_abs y → int_rem x y ≡ r → IsRemainder x y r
left x y r some is = subst (λ r. IsRemainder x y r) is (record {
  times = int_div x y;
  sum = sym (quot-rem x y);
  smaller = rem_below x y some;
  positive = positive_is x y;
  negative = negative_is x y;
})

pub remainder_is : (x y r : ℤ) → remainder x y ≡ Ok r → IsRemainder x y r
remainder_is x (pos zero) r is = absurd (cc)
remainder_is x (pos (suc n)) r is = left x (pos (suc n)) r (omega arith) (same_number (int_rem x (pos (suc n))) r is)
remainder_is x (negsuc n) r is = left x (negsuc n) r (omega arith) (same_number (int_rem x (negsuc n)) r is)
