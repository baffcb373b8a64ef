-- Bounds that are numbers, beside ranges.
use Rattle.std.proofs.Common.{IfSome, List, None, Option, Some, [], arith, get_or, inl, inr, length, pos, refl, subst, sym, ℕ, ℤ, ◌*◌, ◌++◌, ◌+ℤ◌, ◌<◌, ◌∷◌, ◌≡◌, ◌≤ℤ◌, ◌⊎◌}
use Rattle.std.proofs.lemmas.Int.{ints}
use Rattle.ctd_range.specs.calls.Ranges.{IsIn}
use Rattle.ctd_range.specs.declared.range.Range.{Range}
use Rattle.ctd_store.specs.declared.value.Value.TheVariants as values
use Rattle.ctd_elements.specs.declared.fact.Bound.{Bound}
use Rattle.ctd_elements.specs.calls.Bounds.{IsNumber}
use Rattle.ctd_elements.specs.calls.Limits.{IsAtLeast, IsAtLeastAll, IsAtMost, IsAtMostAll}
use Rattle.ctd_elements.proofs.Limiting.{least_at, most_at}
use Rattle.ctd_limits.specs.declared.known.ValueLimits.{ValueLimits}
use Rattle.ctd_limits.specs.calls.Known.{KnowsRange, NarrowsTo}
use Rattle.ctd_limits.specs.inner.Numbers.{AddsNumber, IsFromLows, IsFromNumber, IsToHighs, IsToNumber}
use Rattle.ctd_limits.proofs.Listing.{least_push, most_push}

-- one of the bounds is a number
pub from_number : (lows : List Bound) (k : ℕ) (e : Bound) (least : ℤ) → k < length lows → ((get_or lows k e).term ≡ None) × ((get_or lows k e).add ≡ least) → IsFromNumber lows least
from_number lows k e least inside is names h x all =
    let b = get_or lows k e in
    let low : IsAtLeast names h b (values.Int x) = least_at names h lows k e (values.Int x) inside all in
    let number : low.0 ≡ b.add = subst (λ o. IsNumber names h o b.add low.0) is.0 low.1 in
    omega (arith, ints, number, low.2, is.1)

pub to_number : (highs : List Bound) (k : ℕ) (e : Bound) (most : ℤ) → k < length highs → ((get_or highs k e).term ≡ None) × ((get_or highs k e).add ≡ most) → IsToNumber highs most
to_number highs k e most inside is names h x all =
    let b = get_or highs k e in
    let high : IsAtMost names h b (values.Int x) = most_at names h highs k e (values.Int x) inside all in
    let number : high.0 ≡ b.add = subst (λ o. IsNumber names h o b.add high.0) is.0 high.1 in
    omega (arith, ints, number, high.2, is.1)

-- one of two numbers, of which both are so
pub one_of_both : (P : ℤ → Type 0) (old : Option ℤ) (new z : ℤ) → IfSome old P → P new → (z ≡ new) ⊎ (old ≡ Some z) → P z
one_of_both P old new z before now (inl is) = subst P (sym is) now
one_of_both P old new z before now (inr is) = subst (λ o. IfSome o P) is before

-- the numbers of a range
pub from_least : (range narrow : Range) (lows : List Bound) (least : ℤ) → IsFromNumber lows least → ((n : ℕ) (x : ℤ) → (least +ℤ pos (0 * n)) ≤ℤ x → IsIn range n x → IsIn narrow n x) → IsFromLows range lows narrow
from_least range narrow lows least from with_low names h n x all inside =
    let none : 0 * n ≡ 0 = omega arith in
    with_low n x (omega (arith, ints, none, from names h x all)) inside

pub to_most : (range narrow : Range) (highs : List Bound) (most : ℤ) → IsToNumber highs most → ((n : ℕ) (x : ℤ) → (x +ℤ pos (0 * n)) ≤ℤ most → IsIn range n x → IsIn narrow n x) → IsToHighs range highs narrow
to_most range narrow highs most to with_high names h n x all inside =
    let none : 0 * n ≡ 0 = omega arith in
    with_high n x (omega (arith, ints, none, to names h x all)) inside

pub narrows : (range above narrow : Range) (l : ValueLimits) → IsFromLows range l.lows.items above → IsToHighs above l.highs.items narrow → NarrowsTo range l narrow
narrows range above narrow l from to names h n x known inside = to names h n x known.highs (from names h n x known.lows inside)

-- a number beside bounds
pub adds_number : (bounds all : List Bound) (b : Bound) (z : ℤ) → (b.term ≡ None) × (b.add ≡ z) → all ≡ bounds ++ b ∷ [] → AddsNumber bounds z all
adds_number bounds all b z is same = record {
  lows = λ names h x less so_far. subst (λ l. IsAtLeastAll names h l (values.Int x)) (sym same) (least_push names h bounds b (values.Int x) so_far (b.add, subst (λ o. IsNumber names h o b.add b.add) (sym is.0) refl, omega (arith, ints, is.1, less)));
  highs = λ names h x less so_far. subst (λ l. IsAtMostAll names h l (values.Int x)) (sym same) (most_push names h bounds b (values.Int x) so_far (b.add, subst (λ o. IsNumber names h o b.add b.add) (sym is.0) refl, omega (arith, ints, is.1, less)));
}

low_end : (r : Range) (n : ℕ) (x : ℤ) → IsIn r n x → r.low ≤ℤ x
low_end r n x inside = let low = inside.low in omega (arith, ints, low)

high_end : (r : Range) (n : ℕ) (x : ℤ) → IsIn r n x → x ≤ℤ r.high
high_end r n x inside = let high = inside.high in omega (arith, ints, high)

pub knows_range : (old l : ValueLimits) (range : Range) → l.exact ≡ old.exact → l.source ≡ old.source → AddsNumber old.lows.items range.low l.lows.items → AddsNumber old.highs.items range.high l.highs.items → KnowsRange old range l
knows_range old l range exact source lows highs names h n x known inside = record {
  exact = rw exact known.exact;
  lows = lows.lows names h x (low_end range n x inside) known.lows;
  highs = highs.highs names h x (high_end range n x inside) known.highs;
  source = rw source known.source;
}
