-- Which integers a range stands for.
use Rattle.std.specs.Prelude.{◌≡◌, ◌≢◌, ℕ, ◌*◌, IsTrue, ℤ, pos, ◌+ℤ◌, ◌≤ℤ◌, ◌<ℤ◌, Result, Ok, Err}
use Rattle.ctd_program.specs.declared.tree.Compare.{Compare}
use Rattle.ctd_program.specs.declared.tree.Compare.TheVariants as comparisons
use Rattle.ctd_outcome.specs.declared.reason.Fault.{Fault}
use Rattle.ctd_outcome.specs.declared.reason.Fault.TheVariants.{Overflow, DivisionByZero, Exponent}
use Rattle.ctd_range.specs.declared.range.Range.{Range}
use Rattle.ctd_range.specs.declared.arithmetic.Computed.{Computed}

-- an integer lies in a range where so many steps are left
pub record IsIn (r : Range) (n : ℕ) (x : ℤ) : Type 0 where
  pub low : (r.low +ℤ pos (r.rise * n)) ≤ℤ x
  pub high : (x +ℤ pos (r.fall * n)) ≤ℤ r.high

-- a result of an operation is among those that were found
abbrev pub Covers : Computed → ℕ → Result ℤ Fault → Type 0
Covers c n (Ok z) = IsIn c.range n z
Covers c n (Err Overflow) = IsTrue c.overflows
Covers c n (Err DivisionByZero) = IsTrue c.divides_by_zero
Covers c n (Err Exponent) = IsTrue c.has_bad_exponent
Covers c n (Err fault) = ⊥

-- two integers compare so
abbrev pub Relates : Compare → ℤ → ℤ → Type 0
Relates comparisons.Less x y = x <ℤ y
Relates comparisons.Greater x y = y <ℤ x
Relates comparisons.AtMost x y = x ≤ℤ y
Relates comparisons.AtLeast x y = y ≤ℤ x
Relates comparisons.Equal x y = x ≡ y
Relates comparisons.Unequal x y = x ≢ y
