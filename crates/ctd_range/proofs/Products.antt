-- A product lies between the products of ends.
use Rattle.ctd_range.proofs.Common.{*ℤ-zero, *ℤ_comm, Bool, Computed, Corner, Covers, IsCorner, IsGreatestOf, IsIn, IsLeastOf, Range, arith, by_lt_z, false, in_range, ints, is_value, mul-le-mul_right}
use Rattle.ctd_range.proofs.Common.{negsuc, pos, refl, suc, sym, true, zero, ℕ, ℤ, ◌*ℤ◌, ◌*◌, ◌+ℤ◌, ◌-◌, ◌<ℤ◌, ◌^◌, ◌||◌, ◌∙◌, ◌≡◌, ◌≤ℤ◌, ◌≤◌}
use Rattle.ctd_range.proofs.Ends.{covers_in_range, value_is_least, value_is_most, between}

-- by a number that is not negative
pub times_up : (x y k : ℤ) → pos 0 ≤ℤ k → x ≤ℤ y → (x *ℤ k) ≤ℤ (y *ℤ k)
times_up (pos a) (pos b) (pos c) h less = let m : a * c ≤ b * c = mul-le-mul_right c (omega (arith, ints)) in omega (arith, ints)
times_up (pos a) (negsuc b) (pos c) h less = absurd (omega (arith, ints))
times_up (negsuc a) (pos b) (pos c) h less = omega (arith, ints)
times_up (negsuc a) (negsuc b) (pos c) h less = let m : suc b * c ≤ suc a * c = mul-le-mul_right c (omega (arith, ints)) in omega (arith, ints)
times_up x y (negsuc c) h less = absurd (omega (arith, ints))

-- by a negative number
pub times_down : (x y k : ℤ) → k ≤ℤ pos 0 → x ≤ℤ y → (y *ℤ k) ≤ℤ (x *ℤ k)
times_down (pos a) (pos b) (negsuc c) h less = let m : a * suc c ≤ b * suc c = mul-le-mul_right (suc c) (omega (arith, ints)) in omega (arith, ints)
times_down (pos a) (negsuc b) (negsuc c) h less = absurd (omega (arith, ints))
times_down (negsuc a) (pos b) (negsuc c) h less = omega (arith, ints)
times_down (negsuc a) (negsuc b) (negsuc c) h less = let m : suc b * suc c ≤ suc a * suc c = mul-le-mul_right (suc c) (omega (arith, ints)) in omega (arith, ints)
times_down x y (pos zero) h less = omega (arith, ints, *ℤ-zero x, *ℤ-zero y)
times_down x y (pos (suc c)) h less = absurd (omega (arith, ints))

-- on the left
up_left : (x y k : ℤ) → pos 0 ≤ℤ k → x ≤ℤ y → (k *ℤ x) ≤ℤ (k *ℤ y)
up_left x y k h less = rw (*ℤ_comm k x, *ℤ_comm k y) (times_up x y k h less)

down_left : (x y k : ℤ) → k ≤ℤ pos 0 → x ≤ℤ y → (k *ℤ y) ≤ℤ (k *ℤ x)
down_left x y k h less = rw (*ℤ_comm k x, *ℤ_comm k y) (times_down x y k h less)

-- which corner is at most a product
pub data Below (al ah bl bh z : ℤ) : Type 0 where
  low_low : (al *ℤ bl) ≤ℤ z → Below al ah bl bh z
  low_high : (al *ℤ bh) ≤ℤ z → Below al ah bl bh z
  high_low : (ah *ℤ bl) ≤ℤ z → Below al ah bl bh z
  high_high : (ah *ℤ bh) ≤ℤ z → Below al ah bl bh z

-- which is at least a product
pub data Above (al ah bl bh z : ℤ) : Type 0 where
  low_low' : z ≤ℤ (al *ℤ bl) → Above al ah bl bh z
  low_high' : z ≤ℤ (al *ℤ bh) → Above al ah bl bh z
  high_low' : z ≤ℤ (ah *ℤ bl) → Above al ah bl bh z
  high_high' : z ≤ℤ (ah *ℤ bh) → Above al ah bl bh z

trans : (a b c : ℤ) → a ≤ℤ b → b ≤ℤ c → a ≤ℤ c
trans a b c h k = omega (arith, ints)

weak : (a b : ℤ) → a <ℤ b → a ≤ℤ b
weak a b h = omega (arith, ints)

pub below : (al ah bl bh x y : ℤ) → al ≤ℤ x → x ≤ℤ ah → bl ≤ℤ y → y ≤ℤ bh → Below al ah bl bh (x *ℤ y)
below al ah bl bh x y h1 h2 h3 h4 = by_lt_z y (pos 0)
    (λ negative. by_lt_z ah (pos 0)
    (λ n. high_high (trans _ _ _ (down_left y bh ah (weak _ _ n) h4) (times_down x ah y (weak _ _ negative) h2)))
    (λ p. high_low (trans _ _ _ (up_left bl y ah p h3) (times_down x ah y (weak _ _ negative) h2))))
    (λ positive. by_lt_z al (pos 0)
    (λ n. low_high (trans _ _ _ (down_left y bh al (weak _ _ n) h4) (times_up al x y positive h1)))
    (λ p. low_low (trans _ _ _ (up_left bl y al p h3) (times_up al x y positive h1))))

pub above : (al ah bl bh x y : ℤ) → al ≤ℤ x → x ≤ℤ ah → bl ≤ℤ y → y ≤ℤ bh → Above al ah bl bh (x *ℤ y)
above al ah bl bh x y h1 h2 h3 h4 = by_lt_z y (pos 0)
    (λ negative. by_lt_z al (pos 0)
    (λ n. low_low' (trans _ _ _ (times_down al x y (weak _ _ negative) h1) (down_left bl y al (weak _ _ n) h3)))
    (λ p. low_high' (trans _ _ _ (times_down al x y (weak _ _ negative) h1) (up_left y bh al p h4))))
    (λ positive. by_lt_z ah (pos 0)
    (λ n. high_low' (trans _ _ _ (times_up x ah y positive h2) (down_left bl y ah (weak _ _ n) h3)))
    (λ p. high_high' (trans _ _ _ (times_up x ah y positive h2) (up_left y bh ah p h4))))

-- a value is at least the least corner, and at most the greatest
least_is_below : (al ah bl bh z x : ℤ) (p q r s : Corner) → IsCorner (al *ℤ bl) p → IsCorner (al *ℤ bh) q → IsCorner (ah *ℤ bl) r → IsCorner (ah *ℤ bh) s → IsLeastOf p q r s x → is_value z ≡ true → Below al ah bl bh z → x ≤ℤ z
least_is_below al ah bl bh z x p q r s cp cq cr cs least value (low_low h) = trans _ _ _ least.p_above (cp.below z value h)
least_is_below al ah bl bh z x p q r s cp cq cr cs least value (low_high h) = trans _ _ _ least.q_above (cq.below z value h)
least_is_below al ah bl bh z x p q r s cp cq cr cs least value (high_low h) = trans _ _ _ least.r_above (cr.below z value h)
least_is_below al ah bl bh z x p q r s cp cq cr cs least value (high_high h) = trans _ _ _ least.s_above (cs.below z value h)

greatest_is_above : (al ah bl bh z x : ℤ) (p q r s : Corner) → IsCorner (al *ℤ bl) p → IsCorner (al *ℤ bh) q → IsCorner (ah *ℤ bl) r → IsCorner (ah *ℤ bh) s → IsGreatestOf p q r s x → is_value z ≡ true → Above al ah bl bh z → z ≤ℤ x
greatest_is_above al ah bl bh z x p q r s cp cq cr cs greatest value (low_low' h) = trans _ _ _ (cp.above z value h) greatest.p_below
greatest_is_above al ah bl bh z x p q r s cp cq cr cs greatest value (low_high' h) = trans _ _ _ (cq.above z value h) greatest.q_below
greatest_is_above al ah bl bh z x p q r s cp cq cr cs greatest value (high_low' h) = trans _ _ _ (cr.above z value h) greatest.r_below
greatest_is_above al ah bl bh z x p q r s cp cq cr cs greatest value (high_high' h) = trans _ _ _ (cs.above z value h) greatest.s_below

-- where no corner passes, a product is a value
least_value : (al ah bl bh z : ℤ) → is_value (al *ℤ bl) ≡ true → is_value (al *ℤ bh) ≡ true → is_value (ah *ℤ bl) ≡ true → is_value (ah *ℤ bh) ≡ true → Below al ah bl bh z → negsuc (2 ^ 127 - 1) ≤ℤ z
least_value al ah bl bh z p q r s (low_low h) = trans _ _ _ (value_is_least _ p) h
least_value al ah bl bh z p q r s (low_high h) = trans _ _ _ (value_is_least _ q) h
least_value al ah bl bh z p q r s (high_low h) = trans _ _ _ (value_is_least _ r) h
least_value al ah bl bh z p q r s (high_high h) = trans _ _ _ (value_is_least _ s) h

most_value : (al ah bl bh z : ℤ) → is_value (al *ℤ bl) ≡ true → is_value (al *ℤ bh) ≡ true → is_value (ah *ℤ bl) ≡ true → is_value (ah *ℤ bh) ≡ true → Above al ah bl bh z → z ≤ℤ pos (2 ^ 127 - 1)
most_value al ah bl bh z p q r s (low_low' h) = trans _ _ _ h (value_is_most _ p)
most_value al ah bl bh z p q r s (low_high' h) = trans _ _ _ h (value_is_most _ q)
most_value al ah bl bh z p q r s (high_low' h) = trans _ _ _ h (value_is_most _ r)
most_value al ah bl bh z p q r s (high_high' h) = trans _ _ _ h (value_is_most _ s)

is_within : (z : ℤ) → negsuc (2 ^ 127 - 1) ≤ℤ z → z ≤ℤ pos (2 ^ 127 - 1) → is_value z ≡ true
is_within z l h = between z (negsuc (2 ^ 127 - 1)) (pos (2 ^ 127 - 1)) (omega (arith, ints)) l h (omega (arith, ints))

none_passes : (a b c d o : Bool) → o ≡ (a || b || c || d) → o ≡ false → (a ≡ false) × (b ≡ false) × (c ≡ false) × (d ≡ false)
none_passes true b c d o is now = absurd (cc)
none_passes false true c d o is now = absurd (cc)
none_passes false false true d o is now = absurd (cc)
none_passes false false false d o is now = (refl, refl, refl, sym is ∙ now)

outside : (al ah bl bh x y : ℤ) (p q r s : Corner) (o b : Bool) → IsCorner (al *ℤ bl) p → IsCorner (al *ℤ bh) q → IsCorner (ah *ℤ bl) r → IsCorner (ah *ℤ bh) s → al ≤ℤ x → x ≤ℤ ah → bl ≤ℤ y → y ≤ℤ bh
    → o ≡ (p.passes || q.passes || r.passes || s.passes) → o ≡ b → is_value (x *ℤ y) ≡ false → o ≡ true
outside al ah bl bh x y p q r s o true cp cq cr cs h1 h2 h3 h4 is now no_value = now
outside al ah bl bh x y p q r s o false cp cq cr cs h1 h2 h3 h4 is now no_value =
    let free : (p.passes ≡ false) × (q.passes ≡ false) × (r.passes ≡ false) × (s.passes ≡ false) = none_passes p.passes q.passes r.passes s.passes o is now in
    let vp : is_value (al *ℤ bl) ≡ true = cp.value free.0 in
    let vq : is_value (al *ℤ bh) ≡ true = cq.value free.1 in
    let vr : is_value (ah *ℤ bl) ≡ true = cr.value free.2 in
    let vs : is_value (ah *ℤ bh) ≡ true = cs.value free.3 in
    let value : is_value (x *ℤ y) ≡ true = is_within (x *ℤ y) (least_value al ah bl bh (x *ℤ y) vp vq vr vs (below al ah bl bh x y h1 h2 h3 h4)) (most_value al ah bl bh (x *ℤ y) vp vq vr vs (above al ah bl bh x y h1 h2 h3 h4)) in
    absurd (cc (value, no_value))

at_low : (z l : ℤ) (s n : ℕ) → s ≡ 0 → l ≤ℤ z → (l +ℤ pos (s * n)) ≤ℤ z
at_low z l s n flat h = let e : s * n ≡ 0 = rw flat (omega arith) in omega (arith, ints)

at_high : (z h : ℤ) (s n : ℕ) → s ≡ 0 → z ≤ℤ h → (z +ℤ pos (s * n)) ≤ℤ h
at_high z h s n flat k = let e : s * n ≡ 0 = rw flat (omega arith) in omega (arith, ints)

-- the ends without their slopes
plain_low : (a : Range) (n : ℕ) (x : ℤ) → IsIn a n x → a.low ≤ℤ x
plain_low a n x i = let k = i.low in omega (arith, ints)

plain_high : (a : Range) (n : ℕ) (x : ℤ) → IsIn a n x → x ≤ℤ a.high
plain_high a n x i = let k = i.high in omega (arith, ints)

pub corners_cover : (a b : Range) (n : ℕ) (x y : ℤ) (p q r s : Corner) (c : Computed) → IsCorner (a.low *ℤ b.low) p → IsCorner (a.low *ℤ b.high) q → IsCorner (a.high *ℤ b.low) r → IsCorner (a.high *ℤ b.high) s
    → IsLeastOf p q r s c.range.low → IsGreatestOf p q r s c.range.high → c.range.rise ≡ 0 → c.range.fall ≡ 0 → c.overflows ≡ (p.passes || q.passes || r.passes || s.passes) → IsIn a n x → IsIn b n y → Covers c n (in_range (x *ℤ y))
corners_cover a b n x y p q r s c cp cq cr cs least greatest rise fall is i j =
    let h1 : a.low ≤ℤ x = plain_low a n x i in
    let h2 : x ≤ℤ a.high = plain_high a n x i in
    let h3 : b.low ≤ℤ y = plain_low b n y j in
    let h4 : y ≤ℤ b.high = plain_high b n y j in
    covers_in_range c n (x *ℤ y)
    (λ value. record {
      low = at_low (x *ℤ y) c.range.low c.range.rise n rise (least_is_below a.low a.high b.low b.high (x *ℤ y) c.range.low p q r s cp cq cr cs least value (below a.low a.high b.low b.high x y h1 h2 h3 h4));
      high = at_high (x *ℤ y) c.range.high c.range.fall n fall (greatest_is_above a.low a.high b.low b.high (x *ℤ y) c.range.high p q r s cp cq cr cs greatest value (above a.low a.high b.low b.high x y h1 h2 h3 h4));
    })
    (λ no_value. outside a.low a.high b.low b.high x y p q r s c.overflows c.overflows cp cq cr cs h1 h2 h3 h4 is refl no_value)
