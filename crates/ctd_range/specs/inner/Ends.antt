-- Ends of ranges.
use Rattle.std.specs.Prelude.{◌≡◌, ◌≤ℤ◌, ℕ, true, false, ℤ}
use Rattle.ctd_value.specs.Arithmetic.{is_value}
use Rattle.ctd_range.specs.declared.arithmetic.Corner.{Corner}
use Rattle.ctd_range.specs.declared.arithmetic.End.{End}

-- an end is this number with this slope, or the limit where the number is no value
pub record IsEnd (exact : ℤ) (slope : ℕ) (limit : ℤ) (e : End) : Type 0 where
  pub exactly : e.passes ≡ false → e.at ≡ exact
  pub sloped : e.passes ≡ false → e.slope ≡ slope
  pub limited : e.passes ≡ true → e.at ≡ limit
  pub flat : e.passes ≡ true → e.slope ≡ 0

-- a corner is on the same side of each value as this number, and is no value's number only where it passes
pub record IsCorner (exact : ℤ) (c : Corner) : Type 0 where
  pub below : (z : ℤ) → is_value z ≡ true → exact ≤ℤ z → c.at ≤ℤ z
  pub above : (z : ℤ) → is_value z ≡ true → z ≤ℤ exact → z ≤ℤ c.at
  pub value : c.passes ≡ false → is_value exact ≡ true

-- a number at most each corner
pub record IsLeastOf (p q r s : Corner) (x : ℤ) : Type 0 where
  pub p_above : x ≤ℤ p.at
  pub q_above : x ≤ℤ q.at
  pub r_above : x ≤ℤ r.at
  pub s_above : x ≤ℤ s.at

-- a number at least each corner
pub record IsGreatestOf (p q r s : Corner) (x : ℤ) : Type 0 where
  pub p_below : p.at ≤ℤ x
  pub q_below : q.at ≤ℤ x
  pub r_below : r.at ≤ℤ x
  pub s_below : s.at ≤ℤ x
