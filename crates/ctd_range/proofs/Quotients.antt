-- What quotients give.
use Rattle.ctd_range.proofs.Common.{Computed, Covers, FitsSigned, IfSome, IsDivisor, IsIn, IsNoFurther, None, Option, Range, Some, arith, div-le_self, div-mul-le_self, int_div, ints}
use Rattle.ctd_range.proofs.Common.{le-div_iff_mul-le, le_trans, mul-le-mul_left, neg_ℤ, negsuc, pos, quotient, refl, suc, true, w128, zero, zero-div, ℕ, ℤ, ◌*◌, ◌+ℤ◌, ◌-ℤ◌, ◌/◌, ◌≡◌, ◌≤ℤ◌, ◌≤◌}
use Rattle.ctd_range.proofs.Divisions.{covers_inside}

-- a smaller number by a larger one is no more
smaller : (a b l m : ℕ) → a ≤ b → l ≤ m → a / suc m ≤ b / suc l
smaller a b l m less more =
    let down : a / suc m * suc m ≤ a = div-mul-le_self a (suc m) in
    let part : a / suc m * suc l ≤ a / suc m * suc m = mul-le-mul_left {m = suc l} {n = suc m} (a / suc m) (omega (arith, more)) in
    (le-div_iff_mul-le {k = suc l} {x = a / suc m} {y = b} (omega arith)).1 (le_trans part (le_trans down less))

negated : (p q : ℕ) → p ≤ q → neg_ℤ (pos q) ≤ℤ neg_ℤ (pos p)
negated zero zero less = omega (arith, ints)
negated zero (suc q) less = omega (arith, ints)
negated (suc p) zero less = absurd (omega (arith, less))
negated (suc p) (suc q) less = omega (arith, ints, less)

not_above : (q p : ℕ) → neg_ℤ (pos q) ≤ℤ pos p
not_above zero p = omega (arith, ints)
not_above (suc q) p = omega (arith, ints)

-- the quotient of a greater number from 0 on by a smaller divisor is no less
pub quotient_most : (x h l y : ℤ) → pos 1 ≤ℤ l → l ≤ℤ y → x ≤ℤ h → pos 0 ≤ℤ h → int_div x y ≤ℤ int_div h l
quotient_most x h (pos zero) y some more less from = absurd (omega (arith, ints, some))
quotient_most x h (negsuc l) y some more less from = absurd (omega (arith, ints, some))
quotient_most x (negsuc b) (pos (suc l)) y some more less from = absurd (omega (arith, ints, from))
quotient_most x (pos b) (pos (suc l)) (pos zero) some more less from = absurd (omega (arith, ints, more))
quotient_most x (pos b) (pos (suc l)) (negsuc m) some more less from = absurd (omega (arith, ints, more))
quotient_most (pos a) (pos b) (pos (suc l)) (pos (suc m)) some more less from = omega (arith, ints, smaller a b l m (omega (arith, ints, less)) (omega (arith, ints, more)))
quotient_most (negsuc a) (pos b) (pos (suc l)) (pos (suc m)) some more less from = not_above (suc a / suc m) (b / suc l)

-- and that of a smaller number up to 0 is no more
pub quotient_least : (x h l y : ℤ) → pos 1 ≤ℤ l → l ≤ℤ y → h ≤ℤ x → h ≤ℤ pos 0 → int_div h l ≤ℤ int_div x y
quotient_least x h (pos zero) y some more less to = absurd (omega (arith, ints, some))
quotient_least x h (negsuc l) y some more less to = absurd (omega (arith, ints, some))
quotient_least x h (pos (suc l)) (pos zero) some more less to = absurd (omega (arith, ints, more))
quotient_least x h (pos (suc l)) (negsuc m) some more less to = absurd (omega (arith, ints, more))
quotient_least x (pos (suc b)) (pos (suc l)) (pos (suc m)) some more less to = absurd (omega (arith, ints, to))
quotient_least (negsuc a) (pos zero) (pos (suc l)) (pos (suc m)) some more less to = absurd (omega (arith, ints, less))
quotient_least (pos a) (pos zero) (pos (suc l)) (pos (suc m)) some more less to = omega (arith, ints, smaller zero zero l l (omega arith) (omega arith), zero-div (suc l))
quotient_least (pos a) (negsuc b) (pos (suc l)) (pos (suc m)) some more less to = not_above (suc b / suc l) (a / suc m)
quotient_least (negsuc a) (negsuc b) (pos (suc l)) (pos (suc m)) some more less to = negated (suc a / suc m) (suc b / suc l) (smaller (suc a) (suc b) l m (omega (arith, ints, less)) (omega (arith, ints, more)))

-- a quotient is no further from 0 than the dividend
within : (q a : ℕ) → q ≤ a → (neg_ℤ (pos a) ≤ℤ pos q) × (pos q ≤ℤ pos a)
within q a less = (not_above a q, omega (arith, ints, less))

below : (q a : ℕ) → q ≤ a → (neg_ℤ (pos a) ≤ℤ neg_ℤ (pos q)) × (neg_ℤ (pos q) ≤ℤ pos a)
below q a less = (negated q a less, not_above q a)

pub quotient_no_further : (x y : ℤ) → IsDivisor y → IsNoFurther x (int_div x y)
quotient_no_further x (pos zero) divides = absurd divides
quotient_no_further (pos a) (pos (suc m)) divides = within (a / suc m) a (div-le_self a (suc m))
quotient_no_further (pos a) (negsuc m) divides = below (a / suc m) a (div-le_self a (suc m))
quotient_no_further (negsuc a) (pos (suc m)) divides = below (suc a / suc m) (suc a) (div-le_self (suc a) (suc m))
quotient_no_further (negsuc a) (negsuc m) divides = within (suc a / suc m) (suc a) (div-le_self (suc a) (suc m))

-- what is no further from 0 than a number between two others lies between the greatest distance and its negation
pub no_further_within : (low high most x z : ℤ) → low ≤ℤ x → x ≤ℤ high → pos 0 ≤ℤ (low +ℤ most) → pos 0 ≤ℤ most → high ≤ℤ most → IsNoFurther x z → (neg_ℤ most ≤ℤ z) × (z ≤ℤ most)
no_further_within low high (negsuc k) x z from to less some above far = absurd (omega (arith, ints, some))
no_further_within low high (pos k) (pos a) z from to less some above far =
    let fewer : a ≤ k = omega (arith, ints, to, above) in
    let down = negated a k fewer in
    let first = far.0 in
    let last = far.1 in
    (omega (arith, ints, down, first), omega (arith, ints, last, fewer))
no_further_within low high (pos k) (negsuc a) z from to less some above far =
    let fewer : suc a ≤ k = omega (arith, ints, from, less) in
    let down = negated (suc a) k fewer in
    let first = far.0 in
    let last = far.1 in
    (omega (arith, ints, down, first), omega (arith, ints, last, fewer))

-- ends of a range, divided by the least divisor
pub quotients_are_in : (a : Range) (low high least : ℤ) (n : ℕ) (x y : ℤ) → pos 1 ≤ℤ least → low ≤ℤ a.low → low ≤ℤ pos 0 → a.high ≤ℤ high → pos 0 ≤ℤ high → IsIn a n x → least ≤ℤ y
    → IsIn (record { low = int_div low least; high = int_div high least; rise = 0; fall = 0 }) n (int_div x y)
quotients_are_in a low high least n x y some below to above from inside more =
    let l = inside.low in
    let h = inside.high in
    let down = quotient_least x low least y some more (omega (arith, ints, below, l)) to in
    let up = quotient_most x high least y some more (omega (arith, ints, above, h)) from in
    record { low = omega (arith, ints, down); high = omega (arith, ints, up) }

pub no_further_is_in : (a : Range) (low most : ℤ) (n : ℕ) (x z : ℤ) → low ≤ℤ a.low → pos 0 ≤ℤ (low +ℤ most) → pos 0 ≤ℤ most → a.high ≤ℤ most → IsIn a n x → IsNoFurther x z → IsIn (record { low = pos 0 -ℤ most; high = most; rise = 0; fall = 0 }) n z
no_further_is_in a low most n x z less below some above inside far =
    let l = inside.low in
    let h = inside.high in
    let both = no_further_within low a.high most x z (omega (arith, ints, less, l)) (omega (arith, ints, h)) below some above far in
    let down = both.0 in
    let up = both.1 in
    record { low = omega (arith, ints, down); high = omega (arith, ints, up) }

-- what a quotient is, where all quotients by numbers of the range of the divisor are known
pub quotient_covers : (c : Computed) (n : ℕ) (x y : ℤ) → FitsSigned w128 c.range.low → FitsSigned w128 c.range.high → (IsDivisor y → IsIn c.range n (int_div x y)) → (y ≡ pos 0 → c.divides_by_zero ≡ true) → Covers c n (quotient x y)
quotient_covers c n x (pos zero) fits_low fits_high inside divides = divides refl
quotient_covers c n x (pos (suc m)) fits_low fits_high inside divides = covers_inside c n (int_div x (pos (suc m))) fits_low fits_high (inside tt)
quotient_covers c n x (negsuc m) fits_low fits_high inside divides = covers_inside c n (int_div x (negsuc m)) fits_low fits_high (inside tt)

-- a number of a range is at least its lower end, and at least 1 if it is no less than 0 and not 0
pub from_low_end : (b : Range) (n : ℕ) (y : ℤ) → IsIn b n y → b.low ≤ℤ y
from_low_end b n y inside = let l = inside.low in omega (arith, ints, l)

pub above_zero : (y : ℤ) → pos 0 ≤ℤ y → IsDivisor y → pos 1 ≤ℤ y
above_zero (pos zero) from divides = absurd divides
above_zero (pos (suc m)) from divides = omega (arith, ints)
above_zero (negsuc m) from divides = absurd (omega (arith, ints, from))

pub quotients_no_further : (a b : Range) (o : Option Range) → IfSome o (λ range. (n : ℕ) (x z : ℤ) → IsIn a n x → IsNoFurther x z → IsIn range n z)
    → IfSome o (λ range. (n : ℕ) (x y : ℤ) → IsIn a n x → IsIn b n y → IsDivisor y → IsIn range n (int_div x y))
quotients_no_further a b None far = tt
quotients_no_further a b (Some range) far = λ n x y inside divisor divides. far n x (int_div x y) inside (quotient_no_further x y divides)
