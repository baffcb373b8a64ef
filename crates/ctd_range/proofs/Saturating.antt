-- What saturating operations give.
use Rattle.ctd_range.proofs.Common.{Bool, Corner, FitsSigned, IsCorner, None, Option, Some, SomeIff, arith, false, ints, is_some, is_value, negsuc, not, pos, saturate_signed, saturate_to_bits, subst}
use Rattle.ctd_range.proofs.Common.{sym, true, w128, ℤ, ◌-◌, ◌^◌, ◌≡◌, ◌≤ℤ◌}
use Rattle.ctd_range.proofs.Ends.{value_is_least, value_is_most, between}

bits_most : (t : ℤ) → negsuc (2 ^ 127 - 1) ≤ℤ t → saturate_to_bits 127 t ≤ℤ t
bits_most (pos n) h = omega (arith, ints)
bits_most (negsuc n) h = omega (arith, ints, h)

bits_least : (t : ℤ) → t ≤ℤ pos (2 ^ 127 - 1) → t ≤ℤ saturate_to_bits 127 t
bits_least (pos n) h = omega (arith, ints, h)
bits_least (negsuc n) h = omega (arith, ints)

pub not_above : (t : ℤ) → negsuc (2 ^ 127 - 1) ≤ℤ t → saturate_signed w128 t ≤ℤ t
not_above t h = bits_most t h

pub not_below : (t : ℤ) → t ≤ℤ pos (2 ^ 127 - 1) → t ≤ℤ saturate_signed w128 t
not_below t h = bits_least t h

-- it stays on the same side of each value
side_below : (t z : ℤ) → negsuc (2 ^ 127 - 1) ≤ℤ z → t ≤ℤ z → saturate_to_bits 127 t ≤ℤ z
side_below (pos n) z h k = omega (arith, ints)
side_below (negsuc n) z h k = omega (arith, ints)

side_above : (t z : ℤ) → z ≤ℤ pos (2 ^ 127 - 1) → z ≤ℤ t → z ≤ℤ saturate_to_bits 127 t
side_above (pos n) z h k = omega (arith, ints)
side_above (negsuc n) z h k = omega (arith, ints)

fits_value : (t : ℤ) → FitsSigned w128 t → is_value t ≡ true
fits_value t h = between t t t (omega (arith, ints)) (omega (arith, ints)) (omega (arith, ints)) (omega (arith, ints))

some_fits : (o : Option ℤ) (t : ℤ) → SomeIff o (FitsSigned w128 t) t → is_some o ≡ true → FitsSigned w128 t
some_fits None t h is = absurd (cc)
some_fits (Some x) t h is = h.0

turned : (b p : Bool) → b ≡ not p → p ≡ false → b ≡ true
turned b true is free = absurd (cc)
turned b false is free = is

pub saturated_corner : (t : ℤ) (o : Option ℤ) (c : Corner) → c.at ≡ saturate_signed w128 t → SomeIff o (FitsSigned w128 t) t → is_some o ≡ not c.passes → IsCorner t c
saturated_corner t o c at iff some = record {
  below = λ z value h. subst (λ x. x ≤ℤ z) (sym at) (side_below t z (value_is_least z value) h);
  above = λ z value h. subst (λ x. z ≤ℤ x) (sym at) (side_above t z (value_is_most z value) h);
  value = λ free. fits_value t (some_fits o t iff (turned (is_some o) c.passes some free));
}
