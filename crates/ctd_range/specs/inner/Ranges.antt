-- Numbers that count turns or are exponents; and what divisions give.
use Rattle.std.specs.Prelude.{zero, suc, ◌<◌, ◌^◌, ⊤, ℤ, pos, negsuc, neg_ℤ, unsigned_abs, ◌≤ℤ◌, ◌⊎◌}

-- a number from 0 to 2^64-1
abbrev pub IsCount : ℤ → Type 0
IsCount (pos n) = n < 2 ^ 64
IsCount (negsuc n) = ⊥

-- a number between 0 and another, and on its side
abbrev pub IsTowardsZero : (x z : ℤ) → Type 0
IsTowardsZero x z = ((pos 0 ≤ℤ z) × (z ≤ℤ x)) ⊎ ((x ≤ℤ z) × (z ≤ℤ pos 0))

-- a number no further from 0 than another
abbrev pub IsNoFurther : (x z : ℤ) → Type 0
IsNoFurther x z = (neg_ℤ (pos (unsigned_abs x)) ≤ℤ z) × (z ≤ℤ pos (unsigned_abs x))

-- a number by which one can divide
abbrev pub IsDivisor : ℤ → Type 0
IsDivisor (pos zero) = ⊥
IsDivisor (pos (suc n)) = ⊤
IsDivisor (negsuc n) = ⊤
