-- What divisions and powers give.
use Rattle.ctd_range.proofs.Common.{Bool, Computed, Covers, FitsSigned, IfSome, IsCount, IsIn, IsTowardsZero, None, Option, Range, Some, SomeIff, arith, false, in_range, inl, inr, int_pow, int_rem}
use Rattle.ctd_range.proofs.Common.{ints, is_value, le_trans, mod-le, mod-lt, nat_lt, nat_tests, neg_ℤ, negsuc, pos, pow-le-pow_left, pow-le-pow_right, pow-suc, power, refl, remainder, suc, true}
use Rattle.ctd_range.proofs.Common.{unsigned_abs, unwrap_or, w128, zero, ℕ, ℤ, ◌%◌, ◌*◌, ◌<ℤ◌, ◌<◌, ◌^◌, ◌≡◌, ◌≤ℤ◌, ◌≤◌}
use lib.Signed.{lt_z}
use Rattle.ctd_range.proofs.Ends.{between, covers_in_range, not_false}

-- a number between 0 and another
above_zero : (q a : ℕ) → q ≤ a → IsTowardsZero (pos a) (pos q)
above_zero q a h = inl (omega (arith, ints), omega (arith, ints, h))

below_zero : (q a : ℕ) → q ≤ suc a → IsTowardsZero (negsuc a) (neg_ℤ (pos q))
below_zero zero a h = inr (omega (arith, ints), omega (arith, ints))
below_zero (suc q) a h = inr (omega (arith, ints, h), omega (arith, ints))

remainder_towards : (x y : ℤ) → IsTowardsZero x (int_rem x y)
remainder_towards (pos a) y = above_zero _ a (mod-le a _)
remainder_towards (negsuc a) y = below_zero _ a (mod-le (suc a) _)

-- a number of a range is a value
inside_is_value : (r : Range) (n : ℕ) (z : ℤ) → FitsSigned w128 r.low → FitsSigned w128 r.high → IsIn r n z → is_value z ≡ true
inside_is_value r n z fits_low fits_high inside = let l = inside.low in let h = inside.high in between z r.low r.high (omega (arith, ints, fits_low)) (omega (arith, ints, l)) (omega (arith, ints, h)) (omega (arith, ints, fits_high))

pub covers_inside : (c : Computed) (n : ℕ) (z : ℤ) → FitsSigned w128 c.range.low → FitsSigned w128 c.range.high → IsIn c.range n z → Covers c n (in_range z)
covers_inside c n z fits_low fits_high inside = covers_in_range c n z (λ _. inside) (λ no. let yes = inside_is_value c.range n z fits_low fits_high inside in absurd (cc (yes, no)))

not_above_zero : (q b : ℕ) → neg_ℤ (pos q) <ℤ pos (suc b)
not_above_zero zero b = omega (arith, ints)
not_above_zero (suc q) b = omega (arith, ints)

remainder_below : (x : ℤ) (m : ℕ) → int_rem x (pos (suc m)) <ℤ pos (suc m)
remainder_below (pos a) m = let l : a % suc m < suc m = mod-lt a (omega arith) in omega (arith, ints)
remainder_below (negsuc a) m = not_above_zero (suc a % suc m) m

pub not_negative : (a : ℤ) → lt_z a (pos 0) ≡ false → pos 0 ≤ℤ a
not_negative a is = grind (arith, ints)

pub positive_from : (b : Range) (n : ℕ) (y : ℤ) → pos 0 ≤ℤ b.low → IsIn b n y → pos 0 ≤ℤ y
positive_from b n y positive j = let low = j.low in omega (arith, ints, low, positive)

pub remainder_covers : (c : Computed) (n : ℕ) (x y : ℤ) → FitsSigned w128 c.range.low → FitsSigned w128 c.range.high → ((z : ℤ) → IsTowardsZero x z → (pos 0 ≤ℤ y → z <ℤ y) → IsIn c.range n z) → (y ≡ pos 0 → c.divides_by_zero ≡ true) → Covers c n (remainder x y)
remainder_covers c n x (pos zero) fits_low fits_high inside divides = divides refl
remainder_covers c n x (pos (suc m)) fits_low fits_high inside divides = covers_inside c n (int_rem x (pos (suc m))) fits_low fits_high (inside (int_rem x (pos (suc m))) (remainder_towards x (pos (suc m))) (λ _. remainder_below x m))
remainder_covers c n x (negsuc m) fits_low fits_high inside divides = covers_inside c n (int_rem x (negsuc m)) fits_low fits_high (inside (int_rem x (negsuc m)) (remainder_towards x (negsuc m)) (λ positive. absurd (omega (arith, ints, positive))))

-- powers
one_power : (e : ℕ) → 1 ^ e ≡ 1
one_power zero = refl
one_power (suc e) = let next : 1 ^ suc e ≡ 1 ^ e * 1 = pow-suc 1 e in let is = one_power e in omega (arith, next, is)

-- a power is 1 at least, if its base is
pub one_at_least : (p e : ℕ) → pos 1 ≤ℤ pos p → pos 1 ≤ℤ pos (p ^ e)
one_at_least p e some =
    let one : 1 ^ e ≤ p ^ e = pow-le-pow_left {n = 1} {m = p} (omega (arith, ints, some)) e in
    let is : 1 ^ e ≡ 1 = one_power e in
    omega (arith, ints)

power_of : (c : Computed) (n p e : ℕ) → e < 2 ^ 64 → Covers c n (in_range (pos (p ^ e))) → Covers c n (power (pos p) (pos e))
power_of c n p e less covers = let yes : nat_lt e (2 ^ 64) ≡ true = grind (arith, nat_tests, less) in rw yes covers

pub power_up_to : (l most low few base exponent : ℤ) (bad : Bool) (n : ℕ) (x y : ℤ) → FitsSigned w128 l → FitsSigned w128 most
    → low ≤ℤ x → few ≤ℤ y → ((p e : ℕ) → low ≤ℤ pos p → few ≤ℤ pos e → l ≤ℤ pos (p ^ e))
    → pos 0 ≤ℤ x → x ≤ℤ base → (bad ≡ false → IsCount y) → y ≤ℤ exponent → ((p e : ℕ) → pos p ≤ℤ base → pos e ≤ℤ exponent → (e < 2 ^ 64) × (pos (p ^ e) ≤ℤ most))
    → Covers (record { range = record { low = l; high = most; rise = 0; fall = 0 }; overflows = false; divides_by_zero = false; has_bad_exponent = bad }) n (power x y)
power_up_to l most low few base exponent bad n (negsuc x) y fits_low fits_high a b down c d counts f up = absurd (omega (arith, ints, c))
power_up_to l most low few base exponent bad n (pos p) (negsuc y) fits_low fits_high a b down c d counts f up = not_false bad counts
power_up_to l most low few base exponent bad n (pos p) (pos i) fits_low fits_high a b down c d counts f up =
    let found = up p i d f in
    let result : Computed = record { range = record { low = l; high = most; rise = 0; fall = 0 }; overflows = false; divides_by_zero = false; has_bad_exponent = bad } in
    power_of result n p i found.0 (covers_inside result n (pos (p ^ i)) fits_low fits_high (record { low = omega (arith, ints, down p i a b); high = omega (arith, ints, found.1) }))

below_power : (q k p e : ℕ) → 1 ≤ q → p ≤ q → e ≤ k → p ^ e ≤ q ^ k
below_power q k p e some less fewer = le_trans (pow-le-pow_left {n = p} {m = q} less e) (pow-le-pow_right {n = q} some {i = e} {j = k} fewer)

all_below : (q k : ℕ) (base exponent most : ℤ) → 1 ≤ q → base ≤ℤ pos q → exponent ≤ℤ pos k → k < 2 ^ 32 → most ≡ pos (q ^ k) → (p e : ℕ) → pos p ≤ℤ base → pos e ≤ℤ exponent → (e < 2 ^ 64) × (pos (p ^ e) ≤ℤ most)
all_below q k base exponent most some up to few is p e below fewer =
    let less : p ≤ q = omega (arith, ints, up, below) in
    let least : e ≤ k = omega (arith, ints, to, fewer) in
    let power : p ^ e ≤ q ^ k = below_power q k p e some less least in
    (omega (arith, least, few), omega (arith, ints, power, is))

-- the power of this base, if it is a value, and else 1: no power of a greater base by a greater exponent is below
least_or_one : (q k : ℕ) (exponent : ℤ) (o : Option ℤ) → 1 ≤ q → pos k ≤ℤ exponent → SomeIff o (FitsSigned w128 (pos (q ^ k))) (pos (q ^ k))
    → (p e : ℕ) → pos q ≤ℤ pos p → exponent ≤ℤ pos e → unwrap_or o (pos 1) ≤ℤ pos (p ^ e)
least_or_one q k exponent None some to iff p e above more = one_at_least p e (omega (arith, ints, some, above))
least_or_one q k exponent (Some least) some to iff p e above more =
    let power : q ^ k ≤ p ^ e = below_power p e q k (omega (arith, ints, some, above)) (omega (arith, ints, above)) (omega (arith, ints, to, more)) in
    let is = iff.1 in
    omega (arith, ints, power, is)

pub least_is : (base exponent : ℤ) (k : ℕ) (o : Option ℤ) → pos 1 ≤ℤ base → pos k ≤ℤ exponent → SomeIff o (FitsSigned w128 (int_pow base k)) (int_pow base k)
    → (p e : ℕ) → base ≤ℤ pos p → exponent ≤ℤ pos e → unwrap_or o (pos 1) ≤ℤ pos (p ^ e)
least_is (pos q) exponent k o some to iff = least_or_one q k exponent o (omega (arith, ints, some)) to iff
least_is (negsuc q) exponent k o some to iff = absurd (omega (arith, ints, some))

some_power : (q k : ℕ) (base exponent : ℤ) (o : Option ℤ) → 1 ≤ q → base ≤ℤ pos q → exponent ≤ℤ pos k → k < 2 ^ 32 → SomeIff o (FitsSigned w128 (pos (q ^ k))) (pos (q ^ k)) → IfSome o (λ most. (p e : ℕ) → pos p ≤ℤ base → pos e ≤ℤ exponent → (e < 2 ^ 64) × (pos (p ^ e) ≤ℤ most))
some_power q k base exponent None some up to few iff = tt
some_power q k base exponent (Some most) some up to few iff = all_below q k base exponent most some up to few iff.1

pub greatest_is : (m base exponent : ℤ) (k : ℕ) (o : Option ℤ) → pos 1 ≤ℤ m → base ≤ℤ m → exponent ≤ℤ pos k → k < 2 ^ 32 → SomeIff o (FitsSigned w128 (int_pow m k)) (int_pow m k) → IfSome o (λ most. (p e : ℕ) → pos p ≤ℤ base → pos e ≤ℤ exponent → (e < 2 ^ 64) × (pos (p ^ e) ≤ℤ most))
greatest_is (pos q) base exponent k o some up to few iff = some_power q k base exponent o (omega (arith, ints, some)) up to few iff
greatest_is (negsuc q) base exponent k o some up to few iff = absurd (omega (arith, ints, some))

pub as_count : (exponent : ℤ) (k : ℕ) → pos 0 ≤ℤ exponent → exponent <ℤ pos (2 ^ 32) → k ≡ unsigned_abs exponent → (exponent ≤ℤ pos k) × (k < 2 ^ 32)
as_count (pos n) k some few is = (omega (arith, ints, is), omega (arith, ints, is, few))
as_count (negsuc n) k some few is = absurd (omega (arith, ints, some))

pub as_least : (exponent : ℤ) (k : ℕ) → pos 0 ≤ℤ exponent → k ≡ unsigned_abs exponent → pos k ≤ℤ exponent
as_least (pos n) k some is = omega (arith, ints, is)
as_least (negsuc n) k some is = absurd (omega (arith, ints, some))

pub at_least_one : (a : ℤ) → lt_z a (pos 1) ≡ false → pos 1 ≤ℤ a
at_least_one a is = grind (arith, ints)

pub above_low : (r : Range) (l : ℤ) (n : ℕ) (x : ℤ) → l ≤ℤ r.low → IsIn r n x → l ≤ℤ x
above_low r l n x less inside = let h = inside.low in omega (arith, ints, less, h)

pub below_high : (r : Range) (n : ℕ) (x : ℤ) → IsIn r n x → x ≤ℤ r.high
below_high r n x inside = let h = inside.high in omega (arith, ints, h)
