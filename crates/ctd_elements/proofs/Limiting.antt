-- What is known of a value, beside bounds.
use Rattle.ctd_elements.proofs.Common.{AbstractState, Bindings, Bor, Bound, Describes, IsOrdered, IsUpTo, List, Orders, Some, Value, [], arith, get_or, ints, length, pos, suc, zero, ℕ, ◌+ℤ◌, ◌<◌, ◌∷◌}
use Rattle.ctd_elements.specs.declared.limits.Limits.{Limits}
use Rattle.ctd_elements.specs.calls.Limits.{IsAtLeast, IsAtLeastAll, IsAtMost, IsAtMostAll, IsFrom, IsLimitedFrom, IsLimitedTo}
use Rattle.ctd_elements.specs.inner.Limits.{IsAbove, IsBelow, IsLimitedBelow, IsSureFrom}
use Rattle.ctd_elements.specs.calls.Orders.{IsBefore, IsBehind, IsNext}
use Rattle.ctd_elements.proofs.Parts.{next_number}
use Rattle.ctd_store.specs.declared.value.Value.TheVariants as values

pub least_at : (names : List (Bor (List ℕ))) (h : Bindings) (bs : List Bound) (k : ℕ) (e : Bound) (v : Value) → k < length bs → IsAtLeastAll names h bs v → IsAtLeast names h (get_or bs k e) v
least_at names h [] k e v inside all = absurd (omega (arith, inside))
least_at names h (b ∷ bs) zero e v inside all = all.0
least_at names h (b ∷ bs) (suc k) e v inside all = least_at names h bs k e v (omega (arith, inside)) all.1

pub most_at : (names : List (Bor (List ℕ))) (h : Bindings) (bs : List Bound) (k : ℕ) (e : Bound) (v : Value) → k < length bs → IsAtMostAll names h bs v → IsAtMost names h (get_or bs k e) v
most_at names h [] k e v inside all = absurd (omega (arith, inside))
most_at names h (b ∷ bs) zero e v inside all = all.0
most_at names h (b ∷ bs) (suc k) e v inside all = most_at names h bs k e v (omega (arith, inside)) all.1

from_low : (names : List (Bor (List ℕ))) (h : Bindings) (b low : Bound) (v : Value) → IsOrdered names h b low → IsAtLeast names h low v → IsFrom names h b v
from_low names h b low (values.Text bytes) ordered least = least
from_low names h b low (values.Int x) ordered least = λ z is. omega (arith, ints, ordered z least.0 is least.1, least.2)

to_high : (names : List (Bor (List ℕ))) (h : Bindings) (b high : Bound) (v : Value) → IsOrdered names h high b → IsAtMost names h high v → IsUpTo names h (Some b) v
to_high names h b high (values.Text bytes) ordered most = most
to_high names h b high (values.Int x) ordered most = λ z is. omega (arith, ints, ordered most.0 z most.1 is, most.2)

pub limited_from : (s : AbstractState) (limits : Limits) (b : Bound) (k : ℕ) (e : Bound) → k < length limits.lows.now → Orders s b (get_or limits.lows.now k e) → IsLimitedFrom s limits b
limited_from s limits b k e inside orders n h v it is = from_low s.names.now h b (get_or limits.lows.now k e) v (orders n h it) (least_at s.names.now h limits.lows.now k e v inside is.lows)

pub limited_to : (s : AbstractState) (limits : Limits) (b : Bound) (k : ℕ) (e : Bound) → k < length limits.highs.now → Orders s (get_or limits.highs.now k e) b → IsLimitedTo s limits b
limited_to s limits b k e inside orders n h v it is = to_high s.names.now h b (get_or limits.highs.now k e) v (orders n h it) (most_at s.names.now h limits.highs.now k e v inside is.highs)

sure_low : (s : AbstractState) (n : ℕ) (h : Bindings) (b low : Bound) (v : Value) → IsBefore s b low → Describes s n h → IsAtLeast s.names.now h low v → IsAtLeast s.names.now h b v
sure_low s n h b low (values.Text bytes) before it least = least
sure_low s n h b low (values.Int x) before it least = let y = before n h least.0 it least.1 in (y.0, y.1, omega (arith, ints, y.2, least.2))

pub surely_from : (s : AbstractState) (limits : Limits) (b : Bound) (k : ℕ) (e : Bound) → k < length limits.lows.now → IsBefore s b (get_or limits.lows.now k e) → IsSureFrom s limits b
surely_from s limits b k e inside before n h v it is = sure_low s n h b (get_or limits.lows.now k e) v before it (least_at s.names.now h limits.lows.now k e v inside is.lows)

pub above_by : (s : AbstractState) (b high above : Bound) → IsNext high above → IsBehind s b above → IsAbove s b high
above_by s b high above next behind n h x it is = let y = behind n h (x +ℤ pos 1) it (next_number s.names.now h high above x next is) in (y.0, y.1, omega (arith, ints, y.2))

sure_high : (s : AbstractState) (n : ℕ) (h : Bindings) (b high : Bound) (v : Value) → IsAbove s b high → Describes s n h → IsAtMost s.names.now h high v → IsBelow s.names.now h b v
sure_high s n h b high (values.Text bytes) above it most = most
sure_high s n h b high (values.Int x) above it most = let y = above n h most.0 it most.1 in (y.0, y.1, omega (arith, ints, y.2, most.2))

pub surely_below : (s : AbstractState) (limits : Limits) (b : Bound) (k : ℕ) (e : Bound) → k < length limits.highs.now → IsAbove s b (get_or limits.highs.now k e) → IsLimitedBelow s limits b
surely_below s limits b k e inside above n h v it is = sure_high s n h b (get_or limits.highs.now k e) v above it (most_at s.names.now h limits.highs.now k e v inside is.highs)
