-- What denies a comparison of two numbers.
use Rattle.std.proofs.Common.{Some, arith, pos, subst, sym, ℤ, ◌+ℤ◌, ◌≡◌}
use Rattle.std.proofs.lemmas.Int.{ints}
use Rattle.ctd_program.specs.declared.tree.Compare.{Compare}
use Rattle.ctd_program.specs.declared.tree.Compare.TheVariants as comparisons
use Rattle.ctd_range.specs.calls.Ranges.{Relates}
use Rattle.ctd_store.specs.Store.{Bindings}
use Rattle.ctd_store.specs.declared.value.Value.TheVariants as values
use Rattle.ctd_states.specs.declared.assign.Context.{Context}
use Rattle.ctd_elements.specs.declared.fact.AbstractState.{AbstractState}
use Rattle.ctd_elements.specs.declared.fact.Bound.{Bound}
use Rattle.ctd_elements.specs.declared.fact.Index.TheVariants as indices
use Rattle.ctd_elements.specs.declared.limits.Limits.{Limits}
use Rattle.ctd_elements.specs.calls.Bounds.{IsBound}
use Rattle.ctd_elements.specs.calls.Limits.{Differ, IsExactly, IsLimited, IsLimitedFrom, IsLimitedTo}
use Rattle.ctd_elements.specs.calls.Orders.{IsNext}
use Rattle.ctd_elements.proofs.Parts.{next_number}
use Rattle.ctd_partitions.specs.declared.state.State.{State}
use Rattle.ctd_partitions.specs.calls.States.{IsViewOf}
use Rattle.ctd_partitions.specs.calls.Tests.{ComparesState}
use Rattle.ctd_partitions.specs.inner.Denied.{Denies, IsAboveBy, IsAtLeastBy}
use Rattle.ctd_partitions.proofs.Changing.{viewed}

-- a number that is that of a bound
exactly : (s : AbstractState) (h : Bindings) (b : Limits) (q : Bound) (y : ℤ) → b.exact ≡ Some (indices.Number q) → IsLimited s.names.now h b (values.Int y) → IsBound s.names.now h q y
exactly s h b q y is is_y = subst (λ o. IsExactly s.names.now h o (values.Int y)) is is_y.exact

pub from_least : (s : AbstractState) (a b : Limits) (q : Bound) → b.exact ≡ Some (indices.Number q) → IsLimitedFrom s a q → IsAtLeastBy s a b
from_least s a b q is from n h x y it is_x is_y = from n h (values.Int x) it is_x y (exactly s h b q y is is_y)

pub up_to_most : (s : AbstractState) (a b : Limits) (p : Bound) → a.exact ≡ Some (indices.Number p) → IsLimitedTo s b p → IsAtLeastBy s a b
up_to_most s a b p is to n h x y it is_x is_y = to n h (values.Int y) it is_y x (exactly s h a p x is is_x)

pub from_above : (s : AbstractState) (a b : Limits) (q above : Bound) → b.exact ≡ Some (indices.Number q) → IsNext q above → IsLimitedFrom s a above → IsAboveBy s a b
from_above s a b q above is next from n h x y it is_x is_y =
    omega (arith, ints, from n h (values.Int x) it is_x (y +ℤ pos 1) (next_number s.names.now h q above y next (exactly s h b q y is is_y)))

-- each comparison, and what denies it
pub denies_less : (s : AbstractState) (by : Compare) (a b : Limits) → by ≡ comparisons.Less → IsAtLeastBy s a b → Denies s by a b
denies_less s by a b is least n h x y it is_x is_y relates = omega (arith, ints, least n h x y it is_x is_y, subst (λ c. Relates c x y) is relates)

pub denies_greater : (s : AbstractState) (by : Compare) (a b : Limits) → by ≡ comparisons.Greater → IsAtLeastBy s b a → Denies s by a b
denies_greater s by a b is least n h x y it is_x is_y relates = omega (arith, ints, least n h y x it is_y is_x, subst (λ c. Relates c x y) is relates)

pub denies_at_most : (s : AbstractState) (by : Compare) (a b : Limits) → by ≡ comparisons.AtMost → IsAboveBy s a b → Denies s by a b
denies_at_most s by a b is above n h x y it is_x is_y relates = omega (arith, ints, above n h x y it is_x is_y, subst (λ c. Relates c x y) is relates)

pub denies_at_least : (s : AbstractState) (by : Compare) (a b : Limits) → by ≡ comparisons.AtLeast → IsAboveBy s b a → Denies s by a b
denies_at_least s by a b is above n h x y it is_x is_y relates = omega (arith, ints, above n h y x it is_y is_x, subst (λ c. Relates c x y) is relates)

pub denies_equal_above : (s : AbstractState) (by : Compare) (a b : Limits) → by ≡ comparisons.Equal → IsAboveBy s a b → Denies s by a b
denies_equal_above s by a b is above n h x y it is_x is_y relates = omega (arith, ints, above n h x y it is_x is_y, subst (λ c. Relates c x y) is relates)

pub denies_equal_below : (s : AbstractState) (by : Compare) (a b : Limits) → by ≡ comparisons.Equal → IsAboveBy s b a → Denies s by a b
denies_equal_below s by a b is above n h x y it is_x is_y relates = omega (arith, ints, above n h y x it is_y is_x, subst (λ c. Relates c x y) is relates)

pub denies_equal_apart : (s : AbstractState) (by : Compare) (a b : Limits) → by ≡ comparisons.Equal → Differ s a b → Denies s by a b
denies_equal_apart s by a b is apart n h x y it is_x is_y relates = apart n h x y it is_x is_y (subst (λ c. Relates c x y) is relates)

pub denies_unequal : (s : AbstractState) (by : Compare) (a b : Limits) → by ≡ comparisons.Unequal → IsAtLeastBy s a b → IsAtLeastBy s b a → Denies s by a b
denies_unequal s by a b is least most n h x y it is_x is_y relates =
    (subst (λ c. Relates c x y) is relates) (omega (arith, ints, least n h x y it is_x is_y, most n h y x it is_y is_x))

-- where a comparison is denied, any state will do
pub denied_state : (g : Context) (st after : State) (view : AbstractState) (by : Compare) (a b : Limits) → IsViewOf g st view → Denies view by a b → ComparesState g st by a b after
denied_state g st after view by a b is_view denies n h x y stands is_x is_y relates =
    absurd (denies n h x y (viewed g st view n h is_view stands) (subst (λ q. IsLimited q h a (values.Int x)) (sym is_view.names) is_x) (subst (λ q. IsLimited q h b (values.Int y)) (sym is_view.names) is_y) relates)
