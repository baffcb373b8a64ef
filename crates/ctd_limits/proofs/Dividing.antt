-- Quotients and remainders of numbers that are not negative.
use Rattle.std.proofs.Common.{List, None, [], arith, div-le_self, get_or, int_div, length, negsuc, pos, refl, subst, suc, sym, zero, ℕ, ℤ, ◌/◌, ◌++◌, ◌+ℤ◌, ◌-ℤ◌, ◌<◌, ◌<ℤ◌, ◌∷◌, ◌≡◌, ◌≤◌, ◌≤ℤ◌}
use Rattle.std.proofs.lemmas.Int.{ints}
use Rattle.std.specs.Borrow.{Bor}
use Rattle.ctd_store.specs.Store.{Bindings}
use Rattle.ctd_store.specs.declared.value.Value.TheVariants as values
use Rattle.ctd_elements.specs.declared.fact.Bound.{Bound}
use Rattle.ctd_elements.specs.calls.Bounds.{IsBound, IsNumber}
use Rattle.ctd_elements.specs.calls.Limits.{IsAtLeastAll, IsAtMost, IsAtMostAll, IsElementOf, IsExactly}
use Rattle.ctd_elements.proofs.Bounds.{moved_number}
use Rattle.ctd_elements.proofs.Limiting.{most_at}
use Rattle.ctd_limits.specs.declared.known.ValueLimits.{ValueLimits}
use Rattle.ctd_limits.specs.calls.Known.{KnowsBy}
use Rattle.ctd_limits.specs.inner.Numbers.{IsFromNumber}
use Rattle.ctd_limits.specs.inner.Operators.{LessOne, zero_bound}
use Rattle.ctd_limits.proofs.Listing.{most_push}

one_less : (names : List (Bor (List ℕ))) (h : Bindings) (b c : Bound) (x z : ℤ) → (c.term ≡ b.term) × (c.add ≡ b.add -ℤ pos 1) → z <ℤ x → IsAtMost names h b (values.Int x) → IsAtMost names h c (values.Int z)
one_less names h b c x z less below most =
    let there : IsBound names h c ((most.0 -ℤ b.add) +ℤ c.add) = moved_number names h c.term b.add c.add most.0 (subst (λ o. IsNumber names h o b.add most.0) (sym less.0) most.1) in
    ((most.0 -ℤ b.add) +ℤ c.add, there, omega (arith, ints, below, less.1, most.2))

pub less_push : (bounds after : List Bound) (k : ℕ) (e c : Bound) → k < length bounds → (c.term ≡ (get_or bounds k e).term) × (c.add ≡ (get_or bounds k e).add -ℤ pos 1) → LessOne bounds after → LessOne bounds (after ++ c ∷ [])
less_push bounds after k e c inside less so_far names h x z all below = most_push names h after c (values.Int z) (so_far names h x z all below) (one_less names h (get_or bounds k e) c x z less below (most_at names h bounds k e (values.Int x) inside all))

quotient_range : (x y : ℤ) → pos 0 ≤ℤ x → pos 1 ≤ℤ y → (pos 0 ≤ℤ int_div x y) × (int_div x y ≤ℤ x)
quotient_range (pos a) (pos (suc m)) some more = let l : a / suc m ≤ a = div-le_self a (suc m) in (omega (arith, ints), omega (arith, ints, l))
quotient_range (pos a) (pos zero) some more = absurd (omega (arith, ints, more))
quotient_range (pos a) (negsuc m) some more = absurd (omega (arith, ints, more))
quotient_range (negsuc a) y some more = absurd (omega (arith, ints, some))

from_zero : (names : List (Bor (List ℕ))) (h : Bindings) (lows : List Bound) (z : ℤ) → lows ≡ zero_bound ∷ [] → pos 0 ≤ℤ z → IsAtLeastAll names h lows (values.Int z)
from_zero names h lows z is some = subst (λ l. IsAtLeastAll names h l (values.Int z)) (sym is) ((pos 0, refl, some), tt)

pub most_less : (names : List (Bor (List ℕ))) (h : Bindings) (bs : List Bound) (x z : ℤ) → z ≤ℤ x → IsAtMostAll names h bs (values.Int x) → IsAtMostAll names h bs (values.Int z)
most_less names h [] x z less all = tt
most_less names h (b ∷ bs) x z less all = ((all.0.0, all.0.1, omega (arith, ints, less, all.0.2)), most_less names h bs x z less all.1)

pub quotient_known : (a b l : ValueLimits) → IsFromNumber a.lows.items (pos 0) → IsFromNumber b.lows.items (pos 1) → l.highs.items ≡ a.highs.items → l.lows.items ≡ zero_bound ∷ [] → l.exact ≡ None → l.source ≡ None → KnowsBy (λ x y. int_div x y) a b l
quotient_known a b l some more same nought none nothing names h x y is_a is_b =
    let range = quotient_range x y (some names h x is_a.lows) (more names h y is_b.lows) in
    record { exact = subst (λ o. IsExactly names h o (values.Int (int_div x y))) (sym none) tt; lows = from_zero names h l.lows.items (int_div x y) nought range.0; highs = most_less names h l.highs.items x (int_div x y) range.1 (subst (λ k. IsAtMostAll names h k (values.Int x)) (sym same) is_a.highs); source = subst (λ o. IsElementOf names h o (values.Int (int_div x y))) (sym nothing) tt }
