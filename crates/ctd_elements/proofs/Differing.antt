-- Which numbers differ.
use Rattle.ctd_elements.proofs.Common.{AbstractState, Bindings, Bound, IfSome, Implies, Index, IsBound, IsNumber, None, Option, Orders, Some, arith, ints, pos, subst, ℤ, ◌+ℤ◌, ◌-ℤ◌, ◌≡◌}
use Rattle.ctd_elements.specs.declared.limits.Limits.{Limits}
use Rattle.ctd_elements.specs.calls.Limits.{IsExactly}
use Rattle.ctd_elements.specs.inner.Bounds.{IsLower}
use Rattle.ctd_elements.specs.calls.Orders.{IsMoved, IsNext, IsNumberOf}
use Rattle.ctd_elements.specs.inner.Following.{ImpliesBy}
use Rattle.ctd_elements.specs.inner.Limits.{IsLimitedAs}
use Rattle.ctd_elements.specs.declared.fact.Fact.TheVariants as facts
use Rattle.ctd_store.specs.declared.value.Value.TheVariants as values
use Rattle.ctd_elements.proofs.Bounds.{moved_number}
use Rattle.ctd_elements.proofs.Parts.{next_number}

-- a bound that lies as far above one as another above a second
lies_above : (s : AbstractState) (h : Bindings) (a p : Bound) (x : ℤ) → a.term ≡ p.term → IsBound s.names.now h a x → IsBound s.names.now h p ((x -ℤ a.add) +ℤ p.add)
lies_above s h a p x same is = moved_number s.names.now h p.term a.add p.add x (subst (λ o. IsNumber s.names.now h o a.add x) same is)

pub unequal_by : (s : AbstractState) (a b p q : Bound) → IsMoved a p q b → ImpliesBy s (facts.Unequal a b) (facts.Unequal p q)
unequal_by s a b p q moved n h it differ x y is_a is_b same = differ _ _ (lies_above s h a p x moved.0 is_a) (lies_above s h b q y moved.1 is_b) (omega (arith, ints, moved.2, same))

pub unequal_by_exchanged : (s : AbstractState) (a b p q : Bound) → IsMoved a q p b → ImpliesBy s (facts.Unequal a b) (facts.Unequal p q)
unequal_by_exchanged s a b p q moved n h it differ x y is_a is_b same = differ _ _ (lies_above s h b p y moved.1 is_b) (lies_above s h a q x moved.0 is_a) (omega (arith, ints, moved.2, same))

pub lower_by : (s : AbstractState) (a b above : Bound) → IsNext a above → Orders s above b → IsLower s a b
lower_by s a b above next orders n h x y it is_a is_b = omega (arith, ints, orders n h it (x +ℤ pos 1) y (next_number s.names.now h a above x next is_a) is_b)

pub lower_differs : (s : AbstractState) (a b : Bound) → IsLower s a b → Implies s (facts.Unequal a b)
lower_differs s a b less n h it x y is_a is_b same = omega (arith, ints, less n h x y it is_a is_b, same)

pub higher_differs : (s : AbstractState) (a b : Bound) → IsLower s b a → Implies s (facts.Unequal a b)
higher_differs s a b less n h it x y is_a is_b same = omega (arith, ints, less n h y x it is_b is_a, same)

-- what is known of a number
limited_as : (s : AbstractState) (limits : Limits) (index : Index) (b : Bound) → limits.exact ≡ Some index → IsNumberOf s index b → IsLimitedAs s limits b
limited_as s limits index b is number n h x it limited = number n h (values.Int x) it (subst (λ o. IsExactly s.names.now h o (values.Int x)) is limited.exact)

pub limited_as_some : (s : AbstractState) (limits : Limits) (index : Index) (r : Option Bound) → limits.exact ≡ Some index → IfSome r (λ b. IsNumberOf s index b) → IfSome r (λ b. IsLimitedAs s limits b)
limited_as_some s limits index None is number = tt
limited_as_some s limits index (Some b) is number = limited_as s limits index b is number
