-- Bounds that are numbers.
use Rattle.std.specs.Prelude.{ℕ, List, ℤ, ◌≤ℤ◌}
use Rattle.std.specs.Borrow.{Bor}
use Rattle.ctd_range.specs.calls.Ranges.{IsIn}
use Rattle.ctd_range.specs.declared.range.Range.{Range}
use Rattle.ctd_store.specs.declared.value.Value.TheVariants as values
use Rattle.ctd_store.specs.Store.{Bindings}
use Rattle.ctd_elements.specs.declared.fact.Bound.{Bound}
use Rattle.ctd_elements.specs.calls.Limits.{IsAtLeastAll, IsAtMostAll}

-- what is at least some bounds is at least a number, and what is at most some at most
abbrev pub IsFromNumber : List Bound → ℤ → Type 0
IsFromNumber lows least = (names : List (Bor (List ℕ))) (h : Bindings) (x : ℤ) → IsAtLeastAll names h lows (values.Int x) → least ≤ℤ x

-- a number that is at most some bounds is at most another number
abbrev pub IsToNumber : List Bound → ℤ → Type 0
IsToNumber highs most = (names : List (Bor (List ℕ))) (h : Bindings) (x : ℤ) → IsAtMostAll names h highs (values.Int x) → x ≤ℤ most

-- the numbers of a range that are at least some bounds, or at most
abbrev pub IsFromLows : Range → List Bound → Range → Type 0
IsFromLows range lows narrow = (names : List (Bor (List ℕ))) (h : Bindings) (n : ℕ) (x : ℤ) → IsAtLeastAll names h lows (values.Int x) → IsIn range n x → IsIn narrow n x

-- the numbers of a range that are at most some bounds lie in another range
abbrev pub IsToHighs : Range → List Bound → Range → Type 0
IsToHighs range highs narrow = (names : List (Bor (List ℕ))) (h : Bindings) (n : ℕ) (x : ℤ) → IsAtMostAll names h highs (values.Int x) → IsIn range n x → IsIn narrow n x

-- bounds, and a number with them
pub record AddsNumber (bounds : List Bound) (z : ℤ) (all : List Bound) : Type 0 where
  pub lows : (names : List (Bor (List ℕ))) (h : Bindings) (x : ℤ) → z ≤ℤ x → IsAtLeastAll names h bounds (values.Int x) → IsAtLeastAll names h all (values.Int x)
  pub highs : (names : List (Bor (List ℕ))) (h : Bindings) (x : ℤ) → x ≤ℤ z → IsAtMostAll names h bounds (values.Int x) → IsAtMostAll names h all (values.Int x)
