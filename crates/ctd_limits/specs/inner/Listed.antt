-- Lists of bounds.
use Rattle.std.specs.Prelude.{ℕ, List, ℤ, pos, ◌+ℤ◌, ◌-ℤ◌, ◌*ℤ◌}
use Rattle.std.specs.Borrow.{Bor}
use Rattle.ctd_store.specs.declared.value.Value.TheVariants as values
use Rattle.ctd_store.specs.Store.{Bindings}
use Rattle.ctd_elements.specs.declared.fact.Bound.{Bound}
use Rattle.ctd_elements.specs.calls.Limits.{IsAtLeast, IsAtLeastAll, IsAtMost, IsAtMostAll}

-- what is at most bounds, and at least
pub record AddsEach (before : List Bound) (a : Bound) (others all : List Bound) : Type 0 where
  pub highs : (names : List (Bor (List ℕ))) (h : Bindings) (x y : ℤ) → IsAtMostAll names h before (values.Int (x +ℤ y)) → IsAtMost names h a (values.Int x) → IsAtMostAll names h others (values.Int y) → IsAtMostAll names h all (values.Int (x +ℤ y))
  pub lows : (names : List (Bor (List ℕ))) (h : Bindings) (x y : ℤ) → IsAtLeastAll names h before (values.Int (x +ℤ y)) → IsAtLeast names h a (values.Int x) → IsAtLeastAll names h others (values.Int y) → IsAtLeastAll names h all (values.Int (x +ℤ y))

-- the bounds of two numbers give bounds of their sum
pub record AddsAll (bounds others all : List Bound) : Type 0 where
  pub highs : (names : List (Bor (List ℕ))) (h : Bindings) (x y : ℤ) → IsAtMostAll names h bounds (values.Int x) → IsAtMostAll names h others (values.Int y) → IsAtMostAll names h all (values.Int (x +ℤ y))
  pub lows : (names : List (Bor (List ℕ))) (h : Bindings) (x y : ℤ) → IsAtLeastAll names h bounds (values.Int x) → IsAtLeastAll names h others (values.Int y) → IsAtLeastAll names h all (values.Int (x +ℤ y))

-- bounds of a difference, and those that one bound of its first number gives with bounds of the second
pub record SubtractsEach (before : List Bound) (a : Bound) (others all : List Bound) : Type 0 where
  pub highs : (names : List (Bor (List ℕ))) (h : Bindings) (x y : ℤ) → IsAtMostAll names h before (values.Int (x -ℤ y)) → IsAtMost names h a (values.Int x) → IsAtLeastAll names h others (values.Int y) → IsAtMostAll names h all (values.Int (x -ℤ y))
  pub lows : (names : List (Bor (List ℕ))) (h : Bindings) (x y : ℤ) → IsAtLeastAll names h before (values.Int (x -ℤ y)) → IsAtLeast names h a (values.Int x) → IsAtMostAll names h others (values.Int y) → IsAtLeastAll names h all (values.Int (x -ℤ y))

-- the bounds of two numbers give bounds of their difference
pub record SubtractsAll (bounds others all : List Bound) : Type 0 where
  pub highs : (names : List (Bor (List ℕ))) (h : Bindings) (x y : ℤ) → IsAtMostAll names h bounds (values.Int x) → IsAtLeastAll names h others (values.Int y) → IsAtMostAll names h all (values.Int (x -ℤ y))
  pub lows : (names : List (Bor (List ℕ))) (h : Bindings) (x y : ℤ) → IsAtLeastAll names h bounds (values.Int x) → IsAtMostAll names h others (values.Int y) → IsAtLeastAll names h all (values.Int (x -ℤ y))

-- the bounds of a number give bounds of a multiple of it
pub record Multiplies (times : ℕ) (bounds all : List Bound) : Type 0 where
  pub highs : (names : List (Bor (List ℕ))) (h : Bindings) (x : ℤ) → IsAtMostAll names h bounds (values.Int x) → IsAtMostAll names h all (values.Int (pos times *ℤ x))
  pub lows : (names : List (Bor (List ℕ))) (h : Bindings) (x : ℤ) → IsAtLeastAll names h bounds (values.Int x) → IsAtLeastAll names h all (values.Int (pos times *ℤ x))
