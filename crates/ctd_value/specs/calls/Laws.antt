-- Laws of arithmetic.
use Rattle.std.specs.Prelude.{◌≡◌, ◌<◌, ◌^◌, ℕ, ℤ, pos, ◌+ℤ◌, ◌*ℤ◌, ◌<ℤ◌, unsigned_abs, Ok}
use Rattle.ctd_value.specs.calls.Arithmetic.{factors}
use Rattle.ctd_value.specs.Arithmetic.{in_range, power, remainder}

-- a power is the product of as many equal factors as its exponent says, where that lies in the range of values
abbrev pub PowersAreProducts : Type 0
PowersAreProducts = (x : ℤ) (n : ℕ) → n < 2 ^ 64 → power x (pos n) ≡ in_range (factors x n)

-- x is so many times y, and r more; r is smaller than y, and it is 0 or has the sign of x
pub record IsRemainder (x y r : ℤ) : Type 0 where
  pub times : ℤ
  pub sum : x ≡ times *ℤ y +ℤ r
  pub smaller : unsigned_abs r < unsigned_abs y
  pub positive : pos 0 <ℤ r → pos 0 <ℤ x
  pub negative : r <ℤ pos 0 → x <ℤ pos 0

-- each remainder is what the division leaves
abbrev pub DivisionLeavesRemainders : Type 0
DivisionLeavesRemainders = (x y r : ℤ) → remainder x y ≡ Ok r → IsRemainder x y r
