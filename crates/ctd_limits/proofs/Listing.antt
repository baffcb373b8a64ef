-- Lists of bounds.
use Rattle.std.proofs.Common.{List, [], arith, get_or, length, pos, ℕ, ℤ, ◌*ℤ◌, ◌++◌, ◌+ℤ◌, ◌-ℤ◌, ◌<◌, ◌∷◌, ◌≡◌}
use Rattle.std.proofs.lemmas.Int.{ints}
use Rattle.std.specs.Borrow.{Bor}
use Rattle.ctd_store.specs.Store.{Bindings}
use Rattle.ctd_store.specs.declared.value.Value.{Value}
use Rattle.ctd_store.specs.declared.value.Value.TheVariants as values
use Rattle.ctd_elements.specs.declared.fact.Bound.{Bound}
use Rattle.ctd_elements.specs.calls.Limits.{IsAtLeast, IsAtLeastAll, IsAtMost, IsAtMostAll}
use Rattle.ctd_elements.proofs.Bounds.{multiple_up}
use Rattle.ctd_elements.proofs.Limiting.{least_at, most_at}
use Rattle.ctd_element_changes.specs.calls.Changes.{IsMultiple}
use Rattle.ctd_limits.specs.inner.Adding.{Adds, Subtracts}
use Rattle.ctd_limits.specs.inner.Listed.{AddsAll, AddsEach, Multiplies, SubtractsAll, SubtractsEach}

pub most_push : (names : List (Bor (List ℕ))) (h : Bindings) (bs : List Bound) (b : Bound) (v : Value) → IsAtMostAll names h bs v → IsAtMost names h b v → IsAtMostAll names h (bs ++ b ∷ []) v
most_push names h [] b v all one = (one, tt)
most_push names h (c ∷ bs) b v all one = (all.0, most_push names h bs b v all.1 one)

pub least_push : (names : List (Bor (List ℕ))) (h : Bindings) (bs : List Bound) (b : Bound) (v : Value) → IsAtLeastAll names h bs v → IsAtLeast names h b v → IsAtLeastAll names h (bs ++ b ∷ []) v
least_push names h [] b v all one = (one, tt)
least_push names h (c ∷ bs) b v all one = (all.0, least_push names h bs b v all.1 one)

-- sums
most_sum : (names : List (Bor (List ℕ))) (h : Bindings) (a b c : Bound) (x y : ℤ) → Adds a b c → IsAtMost names h a (values.Int x) → IsAtMost names h b (values.Int y) → IsAtMost names h c (values.Int (x +ℤ y))
most_sum names h a b c x y adds left right = (left.0 +ℤ right.0, adds names h left.0 right.0 left.1 right.1, omega (arith, ints, left.2, right.2))

least_sum : (names : List (Bor (List ℕ))) (h : Bindings) (a b c : Bound) (x y : ℤ) → Adds a b c → IsAtLeast names h a (values.Int x) → IsAtLeast names h b (values.Int y) → IsAtLeast names h c (values.Int (x +ℤ y))
least_sum names h a b c x y adds left right = (left.0 +ℤ right.0, adds names h left.0 right.0 left.1 right.1, omega (arith, ints, left.2, right.2))

pub each_sum : (before : List Bound) (a : Bound) (others after : List Bound) (k : ℕ) (e c : Bound) → k < length others → Adds a (get_or others k e) c → AddsEach before a others after → AddsEach before a others (after ++ c ∷ [])
each_sum before a others after k e c inside adds so_far = record {
  highs = λ names h x y all one other. most_push names h after c (values.Int (x +ℤ y)) (so_far.highs names h x y all one other) (most_sum names h a (get_or others k e) c x y adds one (most_at names h others k e (values.Int y) inside other));
  lows = λ names h x y all one other. least_push names h after c (values.Int (x +ℤ y)) (so_far.lows names h x y all one other) (least_sum names h a (get_or others k e) c x y adds one (least_at names h others k e (values.Int y) inside other));
}

pub all_summed : (bounds others all after : List Bound) (k : ℕ) (e : Bound) → k < length bounds → AddsEach all (get_or bounds k e) others after → AddsAll bounds others all → AddsAll bounds others after
all_summed bounds others all after k e inside each so_far = record {
  highs = λ names h x y left right. each.highs names h x y (so_far.highs names h x y left right) (most_at names h bounds k e (values.Int x) inside left) right;
  lows = λ names h x y left right. each.lows names h x y (so_far.lows names h x y left right) (least_at names h bounds k e (values.Int x) inside left) right;
}

-- differences
most_difference : (names : List (Bor (List ℕ))) (h : Bindings) (a b c : Bound) (x y : ℤ) → Subtracts a b c → IsAtMost names h a (values.Int x) → IsAtLeast names h b (values.Int y) → IsAtMost names h c (values.Int (x -ℤ y))
most_difference names h a b c x y subtracts left right = (left.0 -ℤ right.0, subtracts names h left.0 right.0 left.1 right.1, omega (arith, ints, left.2, right.2))

least_difference : (names : List (Bor (List ℕ))) (h : Bindings) (a b c : Bound) (x y : ℤ) → Subtracts a b c → IsAtLeast names h a (values.Int x) → IsAtMost names h b (values.Int y) → IsAtLeast names h c (values.Int (x -ℤ y))
least_difference names h a b c x y subtracts left right = (left.0 -ℤ right.0, subtracts names h left.0 right.0 left.1 right.1, omega (arith, ints, left.2, right.2))

pub each_difference : (before : List Bound) (a : Bound) (others after : List Bound) (k : ℕ) (e c : Bound) → k < length others → Subtracts a (get_or others k e) c → SubtractsEach before a others after → SubtractsEach before a others (after ++ c ∷ [])
each_difference before a others after k e c inside subtracts so_far = record {
  highs = λ names h x y all one other. most_push names h after c (values.Int (x -ℤ y)) (so_far.highs names h x y all one other) (most_difference names h a (get_or others k e) c x y subtracts one (least_at names h others k e (values.Int y) inside other));
  lows = λ names h x y all one other. least_push names h after c (values.Int (x -ℤ y)) (so_far.lows names h x y all one other) (least_difference names h a (get_or others k e) c x y subtracts one (most_at names h others k e (values.Int y) inside other));
}

pub all_subtracted : (bounds others all after : List Bound) (k : ℕ) (e : Bound) → k < length bounds → SubtractsEach all (get_or bounds k e) others after → SubtractsAll bounds others all → SubtractsAll bounds others after
all_subtracted bounds others all after k e inside each so_far = record {
  highs = λ names h x y left right. each.highs names h x y (so_far.highs names h x y left right) (most_at names h bounds k e (values.Int x) inside left) right;
  lows = λ names h x y left right. each.lows names h x y (so_far.lows names h x y left right) (least_at names h bounds k e (values.Int x) inside left) right;
}

-- multiples
plus_zero : (x : ℤ) → (x +ℤ pos 0) ≡ x
plus_zero x = omega (arith, ints)

most_multiple : (names : List (Bor (List ℕ))) (h : Bindings) (times : ℕ) (a c : Bound) (x : ℤ) → IsMultiple times a (pos 0) c → IsAtMost names h a (values.Int x) → IsAtMost names h c (values.Int (pos times *ℤ x))
most_multiple names h times a c x multiple one = ((pos times *ℤ one.0) +ℤ pos 0, multiple names h one.0 one.1, omega (arith, ints, multiple_up times x one.0 one.2, plus_zero (pos times *ℤ one.0)))

least_multiple : (names : List (Bor (List ℕ))) (h : Bindings) (times : ℕ) (a c : Bound) (x : ℤ) → IsMultiple times a (pos 0) c → IsAtLeast names h a (values.Int x) → IsAtLeast names h c (values.Int (pos times *ℤ x))
least_multiple names h times a c x multiple one = ((pos times *ℤ one.0) +ℤ pos 0, multiple names h one.0 one.1, omega (arith, ints, multiple_up times one.0 x one.2, plus_zero (pos times *ℤ one.0)))

pub one_multiplied : (times : ℕ) (bounds after : List Bound) (k : ℕ) (e c : Bound) → k < length bounds → IsMultiple times (get_or bounds k e) (pos 0) c → Multiplies times bounds after → Multiplies times bounds (after ++ c ∷ [])
one_multiplied times bounds after k e c inside multiple so_far = record {
  highs = λ names h x all. most_push names h after c (values.Int (pos times *ℤ x)) (so_far.highs names h x all) (most_multiple names h times (get_or bounds k e) c x multiple (most_at names h bounds k e (values.Int x) inside all));
  lows = λ names h x all. least_push names h after c (values.Int (pos times *ℤ x)) (so_far.lows names h x all) (least_multiple names h times (get_or bounds k e) c x multiple (least_at names h bounds k e (values.Int x) inside all));
}
