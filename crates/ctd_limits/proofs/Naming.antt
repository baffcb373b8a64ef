-- Bounds of the number of a bound.
use Rattle.std.proofs.Common.{Err, IfOk, List, None, Ok, Result, [], arith, get_or, length, refl, subst, sym, ℕ, ◌++◌, ◌+ℤ◌, ◌-ℤ◌, ◌<◌, ◌∷◌, ◌≡◌}
use Rattle.std.proofs.lemmas.Int.{ints}
use Rattle.std.specs.Global.{Vec}
use Rattle.std.specs.declared.alloc.AllocError.{AllocError}
use Rattle.ctd_store.specs.declared.value.Value.TheVariants as values
use Rattle.ctd_elements.specs.declared.fact.Bound.{Bound}
use Rattle.ctd_elements.specs.declared.fact.Fact.{Fact}
use Rattle.ctd_elements.specs.declared.fact.Fact.TheVariants as facts
use Rattle.ctd_elements.specs.declared.fact.AbstractState.{AbstractState}
use Rattle.ctd_elements.specs.calls.Bounds.{IsBound, IsNumber, IsOrdered}
use Rattle.ctd_elements.specs.calls.Blocks.{Stands}
use Rattle.ctd_elements.specs.calls.Orders.{IsGreatest, IsLeast, IsMoved, IsSure}
use Rattle.ctd_elements.proofs.Bounds.{all_at, moved_number}
use Rattle.ctd_limits.specs.inner.Named.{HighsOf, IsAboveBy, IsBelowBy, LowsOf}
use Rattle.ctd_limits.proofs.Listing.{least_push, most_push}

pub own_high : (s : AbstractState) (b : Bound) → HighsOf s b (b ∷ [])
own_high s b n h x it is = ((x, is, omega (arith, ints)), tt)

pub own_low : (s : AbstractState) (b : Bound) → LowsOf s b (b ∷ [])
own_low s b n h x it is = ((x, is, omega (arith, ints)), tt)

pub number_high : (s : AbstractState) (b c : Bound) (all : List Bound) → (c.term ≡ None) × IsGreatest s b c.add → HighsOf s b all → HighsOf s b (all ++ c ∷ [])
number_high s b c all is so_far n h x it at = most_push s.names.now h all c (values.Int x) (so_far n h x it at) (c.add, subst (λ o. IsNumber s.names.now h o c.add c.add) (sym is.0) refl, is.1 n h x it at)

pub number_low : (s : AbstractState) (b c : Bound) (all : List Bound) → (c.term ≡ None) × IsLeast s b c.add → LowsOf s b all → LowsOf s b (all ++ c ∷ [])
number_low s b c all is so_far n h x it at = least_push s.names.now h all c (values.Int x) (so_far n h x it at) (c.add, subst (λ o. IsNumber s.names.now h o c.add c.add) (sym is.0) refl, is.1 n h x it at)

pub above_fact : (s : AbstractState) (fact : Fact) (b low high c : Bound) → fact ≡ facts.AtMost low high → IsMoved b low high c → IsSure s c → IsAboveBy s fact b c
above_fact s fact b low high c is moved sure n h x it stands at =
    let names = s.names.now in
    let z = sure n h it in
    let ordered : IsOrdered names h low high = subst (λ (f : Fact). Stands names h f) is stands in
    let from : IsBound names h low ((x -ℤ b.add) +ℤ low.add) = moved_number names h low.term b.add low.add x (subst (λ o. IsNumber names h o b.add x) moved.0 at) in
    let to : IsBound names h high ((z.0 -ℤ c.add) +ℤ high.add) = moved_number names h high.term c.add high.add z.0 (subst (λ o. IsNumber names h o c.add z.0) moved.1 z.1) in
    (z.0, z.1, omega (arith, ints, ordered _ _ from to, moved.2))

pub below_fact : (s : AbstractState) (fact : Fact) (b low high c : Bound) → fact ≡ facts.AtMost low high → IsMoved b high low c → IsSure s c → IsBelowBy s fact b c
below_fact s fact b low high c is moved sure n h x it stands at =
    let names = s.names.now in
    let z = sure n h it in
    let ordered : IsOrdered names h low high = subst (λ (f : Fact). Stands names h f) is stands in
    let to : IsBound names h high ((x -ℤ b.add) +ℤ high.add) = moved_number names h high.term b.add high.add x (subst (λ o. IsNumber names h o b.add x) moved.0 at) in
    let from : IsBound names h low ((z.0 -ℤ c.add) +ℤ low.add) = moved_number names h low.term c.add low.add z.0 (subst (λ o. IsNumber names h o c.add z.0) moved.1 z.1) in
    (z.0, z.1, omega (arith, ints, ordered _ _ from to, moved.2))

pub fact_high : (s : AbstractState) (b c : Bound) (all : List Bound) (k : ℕ) (e : Fact) → k < length s.facts.now → IsAboveBy s (get_or s.facts.now k e) b c → HighsOf s b all → HighsOf s b (all ++ c ∷ [])
fact_high s b c all k e inside above so_far n h x it at = most_push s.names.now h all c (values.Int x) (so_far n h x it at) (above n h x it (all_at s.names.now h s.facts.now k e inside it.facts) at)

pub fact_low : (s : AbstractState) (b c : Bound) (all : List Bound) (k : ℕ) (e : Fact) → k < length s.facts.now → IsBelowBy s (get_or s.facts.now k e) b c → LowsOf s b all → LowsOf s b (all ++ c ∷ [])
fact_low s b c all k e inside below so_far n h x it at = least_push s.names.now h all c (values.Int x) (so_far n h x it at) (below n h x it (all_at s.names.now h s.facts.now k e inside it.facts) at)

when_ok : {A E : Type 0} {P Q : A → Type 0} (r : Result A E) → ((x : A) → P x → Q x) → IfOk r P → IfOk r Q
when_ok (Ok x) more holds = more x holds
when_ok (Err e) more holds = tt

pub two_highs : (s : AbstractState) (b c : Bound) (own : List Bound) (r : Result (Vec Bound) AllocError) → own ≡ b ∷ [] → (c.term ≡ None) × IsGreatest s b c.add → IfOk r (λ all. all.items ≡ own ++ c ∷ []) → IfOk r (λ all. HighsOf s b all.items)
two_highs s b c own r only is pushed = when_ok r (λ all same. subst (λ l. HighsOf s b l) (sym same) (number_high s b c own is (subst (λ l. HighsOf s b l) (sym only) (own_high s b)))) pushed

pub two_lows : (s : AbstractState) (b c : Bound) (own : List Bound) (r : Result (Vec Bound) AllocError) → own ≡ b ∷ [] → (c.term ≡ None) × IsLeast s b c.add → IfOk r (λ all. all.items ≡ own ++ c ∷ []) → IfOk r (λ all. LowsOf s b all.items)
two_lows s b c own r only is pushed = when_ok r (λ all same. subst (λ l. LowsOf s b l) (sym same) (number_low s b c own is (subst (λ l. LowsOf s b l) (sym only) (own_low s b)))) pushed
