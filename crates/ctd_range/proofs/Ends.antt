-- What holds between the ends of ranges holds of what is computed of them.
use Rattle.ctd_range.proofs.Common.{Bool, Computed, Covers, End, Err, Exponent, IsCount, IsEnd, IsIn, Ok, Overflow, Range, arith, checked_divide, false, if◌then◌else◌, in_range, int_pow, ints}
use Rattle.ctd_range.proofs.Common.{is_value, mul-le-mul_right, nat_lt, nat_tests, neg_ℤ, negsuc, pos, power, refl, subst, suc, true, zero, ℕ, ℤ, ◌*◌, ◌+ℤ◌, ◌+◌, ◌-ℤ◌, ◌-◌, ◌<ℤ◌, ◌<◌, ◌^◌, ◌≡◌, ◌≤ℤ◌}
use Rattle.ctd_range.proofs.Common.{◌≤◌}

-- a value lies between the least and the greatest
pub value_is_least : (z : ℤ) → is_value z ≡ true → negsuc (2 ^ 127 - 1) ≤ℤ z
value_is_least (pos n) h = omega (arith, ints)
value_is_least (negsuc n) h = grind (arith, ints, nat_tests)

pub value_is_most : (z : ℤ) → is_value z ≡ true → z ≤ℤ pos (2 ^ 127 - 1)
value_is_most (pos n) h = grind (arith, ints, nat_tests)
value_is_most (negsuc n) h = omega (arith, ints)

-- and what lies between two values is one
pub between : (z l h : ℤ) → negsuc (2 ^ 127 - 1) ≤ℤ l → l ≤ℤ z → z ≤ℤ h → h ≤ℤ pos (2 ^ 127 - 1) → is_value z ≡ true
between (pos n) l h a b c d = grind (arith, ints, nat_tests)
between (negsuc n) l h a b c d = grind (arith, ints, nat_tests)

-- a number in the range of values, or the fault that is allowed
pub covers_in_range : (c : Computed) (n : ℕ) (z : ℤ) → (is_value z ≡ true → IsIn c.range n z) → (is_value z ≡ false → c.overflows ≡ true) → Covers c n (in_range z)
covers_in_range c n z inside outside = elim (is_value z) as (λ b. (b ≡ true → IsIn c.range n z) → (b ≡ false → c.overflows ≡ true) → Covers c n (if b then Ok z else Err Overflow)) [
  | true ↦ λ p q. p refl
  | false ↦ λ p q. q refl
] inside outside

-- slopes
pub slopes : (r a b n : ℕ) → r ≤ a + b → r * n ≤ a * n + b * n
slopes r a b n h = omega (arith, mul-le-mul_right n h)

-- a number between two ends, of which each may be a limit
no_slope : (s n : ℕ) → s ≡ 0 → s * n ≡ 0
no_slope s n is = rw is (omega arith)

at_limit_below : (z l : ℤ) (s n : ℕ) → l ≡ negsuc (2 ^ 127 - 1) → s ≡ 0 → negsuc (2 ^ 127 - 1) ≤ℤ z → (l +ℤ pos (s * n)) ≤ℤ z
at_limit_below z l s n is flat below = omega (arith, ints, no_slope s n flat)

at_limit_above : (z h : ℤ) (s n : ℕ) → h ≡ pos (2 ^ 127 - 1) → s ≡ 0 → z ≤ℤ pos (2 ^ 127 - 1) → (z +ℤ pos (s * n)) ≤ℤ h
at_limit_above z h s n is flat above = omega (arith, ints, no_slope s n flat)

lower : (z el : ℤ) (sl n : ℕ) (low : End) (p : Bool) → low.passes ≡ p → IsEnd el sl (negsuc (2 ^ 127 - 1)) low → (el +ℤ pos (sl * n)) ≤ℤ z → is_value z ≡ true → (low.at +ℤ pos (low.slope * n)) ≤ℤ z
lower z el sl n low true is end below value = at_limit_below z low.at low.slope n (end.limited is) (end.flat is) (value_is_least z value)
lower z el sl n low false is end below value = rw (end.exactly is, end.sloped is) below

upper : (z eh : ℤ) (sh n : ℕ) (high : End) (p : Bool) → high.passes ≡ p → IsEnd eh sh (pos (2 ^ 127 - 1)) high → (z +ℤ pos (sh * n)) ≤ℤ eh → is_value z ≡ true → (z +ℤ pos (high.slope * n)) ≤ℤ high.at
upper z eh sh n high true is end above value = at_limit_above z high.at high.slope n (end.limited is) (end.flat is) (value_is_most z value)
upper z eh sh n high false is end above value = rw (end.exactly is, end.sloped is) above

outside : (z el eh : ℤ) (sl sh n : ℕ) (low high : End) (o : Bool) (p q : Bool) → low.passes ≡ p → high.passes ≡ q → IsEnd el sl (negsuc (2 ^ 127 - 1)) low → IsEnd eh sh (pos (2 ^ 127 - 1)) high
    → (el +ℤ pos (sl * n)) ≤ℤ z → (z +ℤ pos (sh * n)) ≤ℤ eh → negsuc (2 ^ 127 - 1) ≤ℤ low.at → high.at ≤ℤ pos (2 ^ 127 - 1) → (low.passes ≡ true → o ≡ true) → (high.passes ≡ true → o ≡ true) → is_value z ≡ false → o ≡ true
outside z el eh sl sh n low high o true q is_p is_q l h below above fits_low fits_high by_low by_high no_value = by_low is_p
outside z el eh sl sh n low high o false true is_p is_q l h below above fits_low fits_high by_low by_high no_value = by_high is_q
outside z el eh sl sh n low high o false false is_p is_q l h below above fits_low fits_high by_low by_high no_value =
    let least : negsuc (2 ^ 127 - 1) ≤ℤ el = subst (λ e. negsuc (2 ^ 127 - 1) ≤ℤ e) (l.exactly is_p) fits_low in
    let most : eh ≤ℤ pos (2 ^ 127 - 1) = subst (λ e. e ≤ℤ pos (2 ^ 127 - 1)) (h.exactly is_q) fits_high in
    let value : is_value z ≡ true = between z el eh least (omega (arith, ints, below)) (omega (arith, ints, above)) most in
    absurd (cc (value, no_value))

pub ends_cover : (z el eh : ℤ) (sl sh n : ℕ) (low high : End) (o : Bool) → IsEnd el sl (negsuc (2 ^ 127 - 1)) low → IsEnd eh sh (pos (2 ^ 127 - 1)) high → (el +ℤ pos (sl * n)) ≤ℤ z → (z +ℤ pos (sh * n)) ≤ℤ eh
    → negsuc (2 ^ 127 - 1) ≤ℤ low.at → high.at ≤ℤ pos (2 ^ 127 - 1) → (low.passes ≡ true → o ≡ true) → (high.passes ≡ true → o ≡ true)
    → Covers (record { range = record { low = low.at; high = high.at; rise = low.slope; fall = high.slope }; overflows = o; divides_by_zero = false; has_bad_exponent = false }) n (in_range z)
ends_cover z el eh sl sh n low high o l h below above fits_low fits_high by_low by_high =
    covers_in_range (record { range = record { low = low.at; high = high.at; rise = low.slope; fall = high.slope }; overflows = o; divides_by_zero = false; has_bad_exponent = false }) n z
    (λ value. record { low = lower z el sl n low low.passes refl l below value; high = upper z eh sh n high high.passes refl h above value })
    (λ no_value. outside z el eh sl sh n low high o low.passes high.passes refl refl l h below above fits_low fits_high by_low by_high no_value)

-- sums and differences of bounds
pub sum_below : (al bl x y : ℤ) (ra rb r n : ℕ) → r ≤ ra + rb → (al +ℤ pos (ra * n)) ≤ℤ x → (bl +ℤ pos (rb * n)) ≤ℤ y → ((al +ℤ bl) +ℤ pos (r * n)) ≤ℤ (x +ℤ y)
sum_below al bl x y ra rb r n h p q = omega (arith, ints, slopes r ra rb n h)

pub sum_above : (ah bh x y : ℤ) (fa fb f n : ℕ) → f ≤ fa + fb → (x +ℤ pos (fa * n)) ≤ℤ ah → (y +ℤ pos (fb * n)) ≤ℤ bh → ((x +ℤ y) +ℤ pos (f * n)) ≤ℤ (ah +ℤ bh)
sum_above ah bh x y fa fb f n h p q = omega (arith, ints, slopes f fa fb n h)

pub difference_below : (al bh x y : ℤ) (ra fb r n : ℕ) → r ≤ ra + fb → (al +ℤ pos (ra * n)) ≤ℤ x → (y +ℤ pos (fb * n)) ≤ℤ bh → ((al -ℤ bh) +ℤ pos (r * n)) ≤ℤ (x -ℤ y)
difference_below al bh x y ra fb r n h p q = omega (arith, ints, slopes r ra fb n h)

pub difference_above : (ah bl x y : ℤ) (fa rb f n : ℕ) → f ≤ fa + rb → (x +ℤ pos (fa * n)) ≤ℤ ah → (bl +ℤ pos (rb * n)) ≤ℤ y → ((x -ℤ y) +ℤ pos (f * n)) ≤ℤ (ah -ℤ bl)
difference_above ah bl x y fa rb f n h p q = omega (arith, ints, slopes f fa rb n h)

-- all values
pub every_value_is_in : (n : ℕ) (x : ℤ) → is_value x ≡ true → IsIn (record { low = negsuc (2 ^ 127 - 1); high = pos (2 ^ 127 - 1); rise = 0; fall = 0 }) n x
every_value_is_in n x value = let l = value_is_least x value in let h = value_is_most x value in record { low = omega (arith, ints, l); high = omega (arith, ints, h) }

pub not_false : (b : Bool) → (b ≡ false → ⊥) → b ≡ true
not_false true never = refl
not_false false never = absurd (never refl)

-- what a division gives, where each value may come out
pub division_covers : (f : ℤ → ℤ → ℤ) (c : Computed) (n : ℕ) (x y : ℤ) → ((z : ℤ) → is_value z ≡ true → IsIn c.range n z) → c.overflows ≡ true → (y ≡ pos 0 → c.divides_by_zero ≡ true) → Covers c n (checked_divide f x y)
division_covers f c n x (pos zero) every passes divides = divides refl
division_covers f c n x (pos (suc m)) every passes divides = covers_in_range c n (f x (pos (suc m))) (every (f x (pos (suc m)))) (λ _. passes)
division_covers f c n x (negsuc m) every passes divides = covers_in_range c n (f x (negsuc m)) (every (f x (negsuc m))) (λ _. passes)

-- what a power gives
pub power_covers : (c : Computed) (n : ℕ) (x y : ℤ) → ((z : ℤ) → is_value z ≡ true → IsIn c.range n z) → c.overflows ≡ true → (c.has_bad_exponent ≡ false → IsCount y) → Covers c n (power x y)
power_covers c n x (negsuc m) every passes counts = not_false c.has_bad_exponent counts
power_covers c n x (pos m) every passes counts = elim (nat_lt m (2 ^ 64)) as (λ b. nat_lt m (2 ^ 64) ≡ b → Covers c n (if b then in_range (int_pow x m) else Err Exponent)) [
  | true ↦ λ is. covers_in_range c n (int_pow x m) (every (int_pow x m)) (λ _. passes)
  | false ↦ λ is. not_false c.has_bad_exponent (λ good. let less : m < 2 ^ 64 = counts good in let yes : nat_lt m (2 ^ 64) ≡ true = grind (arith, nat_tests) in absurd (cc (is, yes)))
] refl

-- the negation of a number
pub zero_less : (x : ℤ) → (pos 0 -ℤ x) ≡ neg_ℤ x
zero_less (pos zero) = refl
zero_less (pos (suc n)) = omega (arith, ints)
zero_less (negsuc n) = omega (arith, ints)

pub zero_is_in : (n : ℕ) → IsIn (record { low = pos 0; high = pos 0; rise = 0; fall = 0 }) n (pos 0)
zero_is_in n = record { low = omega (arith, ints); high = omega (arith, ints) }

-- numbers beside others
pub just_below : (b : Range) (high : ℤ) (n : ℕ) (x y : ℤ) → high ≡ b.high -ℤ pos 1 → x <ℤ y → IsIn b n y → (x +ℤ pos (b.fall * n)) ≤ℤ high
just_below b high n x y is before inside = let h = inside.high in rw is (omega (arith, ints, before, h))

pub just_above : (b : Range) (low : ℤ) (n : ℕ) (x y : ℤ) → low ≡ b.low +ℤ pos 1 → y <ℤ x → IsIn b n y → (low +ℤ pos (b.rise * n)) ≤ℤ x
just_above b low n x y is before inside = let l = inside.low in rw is (omega (arith, ints, before, l))

pub only_one : (b : Range) (n : ℕ) (y : ℤ) → b.low ≡ b.high → IsIn b n y → y ≡ b.low
only_one b n y is inside = let l = inside.low in let h = inside.high in omega (arith, ints, l, h)
