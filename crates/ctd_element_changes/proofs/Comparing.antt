-- What a comparison says of bounds.
use Rattle.ctd_element_changes.proofs.Common.{AbstractState, Bound, Fact, IsBound, List, [], arith, ints, pos, subst, ◌++◌, ◌+ℤ◌, ◌-ℤ◌, ◌∷◌, ◌≡◌, ◌≢◌}
use Rattle.ctd_program.specs.declared.tree.Compare.{Compare}
use Rattle.ctd_program.specs.declared.tree.Compare.TheVariants as comparisons
use Rattle.ctd_range.specs.calls.Ranges.{Relates}
use Rattle.ctd_elements.specs.calls.Limits.{IsExactly, IsLimitedFrom, IsLimitedTo}
use Rattle.ctd_elements.specs.declared.fact.Fact.TheVariants as facts
use Rattle.ctd_elements.specs.declared.limits.Limits.{Limits}
use Rattle.ctd_elements.specs.calls.Orders.{IsNext}
use Rattle.ctd_element_changes.specs.calls.Tests.{Compares}
use Rattle.ctd_element_changes.specs.inner.Compared.{AreNumbers, IsCompared, IsLess, IsNoMore}
use Rattle.ctd_store.specs.declared.value.Value.TheVariants as values
use Rattle.ctd_elements.proofs.Bounds.{one_number}
use Rattle.ctd_elements.proofs.Parts.{next_number}
use Rattle.ctd_element_changes.proofs.Assigned.{all_push}

pub no_more_by : (s : AbstractState) (p q : Bound) (a b : Limits) → IsLimitedFrom s a p → IsLimitedTo s b q → IsNoMore s p q a b
no_more_by s p q a b from to n h x y it is_x is_y less z w is_z is_w = omega (arith, ints, from n h (values.Int x) it is_x z is_z, to n h (values.Int y) it is_y w is_w, less)

pub less_by : (s : AbstractState) (p q above : Bound) (a b : Limits) → IsLimitedFrom s a p → IsNext q above → IsLimitedTo s b above → IsLess s p q a b
less_by s p q above a b from next to n h x y it is_x is_y less z w is_z is_w =
    omega (arith, ints, from n h (values.Int x) it is_x z is_z, to n h (values.Int y) it is_y (w +ℤ pos 1) (next_number s.names.now h q above w next is_w), less)

-- two values that differ, which are the numbers of two bounds
pub compared_unequal : (s : AbstractState) (p q : Bound) (by : Compare) (a b : Limits) → by ≡ comparisons.Unequal → AreNumbers p q a b → IsCompared s by a b (facts.Unequal p q)
compared_unequal s p q by a b is are n h x y it is_x is_y relates z w is_z is_w same =
    let names = s.names.now in
    let apart : x ≢ y = subst (λ c. Relates c x y) is relates in
    let first : IsBound names h p x = subst (λ o. IsExactly names h o (values.Int x)) are.0 is_x.exact in
    let second : IsBound names h q y = subst (λ o. IsExactly names h o (values.Int y)) are.1 is_y.exact in
    let one : (x -ℤ p.add) ≡ (z -ℤ p.add) = one_number names h p.term p.add p.add x z first is_z in
    let other : (y -ℤ q.add) ≡ (w -ℤ q.add) = one_number names h q.term q.add q.add y w second is_w in
    apart (omega (arith, ints, one, other, same))

pub compared_push : (s : AbstractState) (by : Compare) (a b : Limits) (after : List Fact) (f : Fact) → Compares s by a b after → IsCompared s by a b f → Compares s by a b (after ++ f ∷ [])
compared_push s by a b after f all one n h x y it is_x is_y relates = all_push s.names.now h after f (all n h x y it is_x is_y relates) (one n h x y it is_x is_y relates)
