-- Whole numbers, without bound and within the range of values.
-- Used only by per-call contracts and laws.
use Rattle.std.specs.Prelude.{ℕ, zero, suc, ℤ, pos, ◌*ℤ◌}

-- the product of n equal factors
abbrev pub factors : ℤ → ℕ → ℤ
factors x zero = pos 1
factors x (suc n) = x *ℤ factors x n
