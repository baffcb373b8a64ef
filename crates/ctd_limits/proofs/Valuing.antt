-- What is known of literals, names and elements.
use Rattle.std.proofs.Common.{Err, IfOk, IfSome, List, None, Ok, Option, Result, Some, [], arith, get_or, length, refl, subst, sym, ℕ, ℤ, ◌++◌, ◌<◌, ◌∷◌, ◌≡◌}
use Rattle.std.proofs.lemmas.Int.{ints}
use Rattle.ctd_range.specs.declared.range.Range.{Range}
use Rattle.ctd_store.specs.Store.{Bindings, value_at}
use Rattle.ctd_store.specs.declared.value.Value.{Value}
use Rattle.ctd_store.specs.declared.value.Value.TheVariants as values
use Rattle.ctd_states.specs.declared.value.AbstractValue.{AbstractValue}
use Rattle.ctd_states.specs.calls.States.{MayBe, NameStands, at_key, name_at}
use Rattle.ctd_states.proofs.NamedValues.{entry_value}
use Rattle.ctd_elements.specs.declared.fact.Bound.{Bound}
use Rattle.ctd_elements.specs.declared.fact.Fact.{Fact}
use Rattle.ctd_elements.specs.declared.fact.Filling.{Filling}
use Rattle.ctd_elements.specs.declared.fact.Fact.TheVariants as facts
use Rattle.ctd_elements.specs.declared.fact.Index.TheVariants as indices
use Rattle.ctd_elements.specs.declared.fact.AbstractState.{AbstractState}
use Rattle.ctd_elements.specs.declared.limits.Limits.{Limits}
use Rattle.ctd_elements.specs.calls.Bounds.{IsAt, IsBound, IsNumber}
use Rattle.ctd_elements.specs.calls.Blocks.{HasValue, IsUpTo}
use Rattle.ctd_elements.specs.calls.States.{Describes}
use Rattle.ctd_elements.specs.declared.fact.Cell.{Cell}
use Rattle.ctd_elements.specs.calls.Limits.{IsAtLeast, IsAtLeastAll, IsAtMost, IsAtMostAll, IsElementOf, IsExactly}
use Rattle.ctd_elements.specs.calls.Reading.{AreLimited, AreLimitedIn}
use Rattle.ctd_elements.specs.calls.Orders.{IsSure, IsNumberOf, IsGreatestElement}
use Rattle.ctd_elements.proofs.Bounds.{all_at}
use Rattle.ctd_limits.specs.declared.known.ValueLimits.{ValueLimits}
use Rattle.ctd_limits.specs.calls.Known.{IsCellAt, IsKnown, KnowsAt, KnowsName, KnowsNumber}
use Rattle.ctd_limits.specs.inner.Values.{KnowsBound, KnowsValue}
use Rattle.ctd_limits.specs.inner.Elements.{HighsOfElement, IsLeastElement, IsMostOf, IsNumberAbove, IsNumberBelow, KnowsElement, LowsOfElement}
use Rattle.ctd_limits.proofs.Listing.{most_push}

pub number_known : (b : Bound) (l : ValueLimits) → b.term ≡ None → l.exact ≡ Some (indices.Number b) → l.lows.items ≡ b ∷ [] → l.highs.items ≡ b ∷ [] → l.source ≡ None → KnowsNumber b.add l
number_known b l none exact lows highs source names h =
    let number : IsBound names h b b.add = subst (λ o. IsNumber names h o b.add b.add) (sym none) refl in
    record {
      exact = subst (λ o. IsExactly names h o (values.Int b.add)) (sym exact) number;
      lows = subst (λ k. IsAtLeastAll names h k (values.Int b.add)) (sym lows) ((b.add, number, omega (arith, ints)), tt);
      highs = subst (λ k. IsAtMostAll names h k (values.Int b.add)) (sym highs) ((b.add, number, omega (arith, ints)), tt);
      source = subst (λ o. IsElementOf names h o (values.Int b.add)) (sym source) tt;
    }

by_value : (s : AbstractState) (b : Bound) (l : ValueLimits) (n : ℕ) (h : Bindings) (v : Value) → KnowsBound s b l → Describes s n h → IsAt s.names.now h (indices.Number b) v → IsKnown s.names.now h l v
by_value s b l n h (values.Int x) knows it at = knows n h x it at
by_value s b l n h (values.Text bytes) knows it at = absurd at

pub value_known : (s : AbstractState) (i : ℕ) (b : Bound) (l : ValueLimits) → IsNumberOf s (indices.Value i) b → KnowsBound s b l → KnowsValue s i l
value_known s i b l number knows n h v it at = by_value s b l n h v knows it (number n h v it at)

pub name_known : (s : AbstractState) (i : ℕ) (name : List ℕ) (l : ValueLimits) → name_at s.names.now i ≡ name → KnowsValue s i l → KnowsName s name l
name_known s i name l named knows n h v it at = knows n h v it (subst (λ m. value_at h (at_key m []) ≡ Some v) (sym named) at)

-- elements, by the abstract value of the array
element : (s : AbstractState) (array : ℕ) (e : AbstractValue) (n : ℕ) (h : Bindings) (i v : Value) (is : List Value) → array < length s.entries.now → Describes s n h → value_at h (at_key (name_at s.names.now array) (i ∷ is)) ≡ Some v → MayBe (get_or s.entries.now array e).elements n v
element s array e n h i v is inside it has =
    let stands : NameStands (name_at s.names.now array) (get_or s.entries.now array e) n h = entry_value s.names.now s.entries.now array e (name_at s.names.now array) inside refl n h it.values in
    stands.elements i is v has

pub least_is : (value : AbstractValue) (r : Range) → value.elements.text ≡ None → value.elements.number ≡ Some r → IsLeastElement value r.low
least_is value r no_text number n (values.Text bytes) may = absurd (cc (no_text, may.1))
least_is value r no_text number n (values.Int x) may =
    let same : may.0 ≡ r = cc (may.1, number) in
    let low : may.0.low ≡ r.low = subst (λ (q : Range). may.0.low ≡ q.low) same refl in
    (x, refl, omega (arith, ints, may.2.low, low))

pub above_elements : (s : AbstractState) (array : ℕ) (e : AbstractValue) (b : Bound) → array < length s.entries.now → IsGreatestElement (get_or s.entries.now array e) b.add → b.term ≡ None → IsNumberAbove s array b
above_elements s array e b inside greatest none n h i v is it has =
    let x = greatest n v (element s array e n h i v is inside it has) in
    subst (λ w. IsAtMost s.names.now h b w) (sym x.1) (b.add, subst (λ o. IsNumber s.names.now h o b.add b.add) (sym none) refl, x.2)

pub below_elements : (s : AbstractState) (array : ℕ) (e : AbstractValue) (b : Bound) → array < length s.entries.now → IsLeastElement (get_or s.entries.now array e) b.add → b.term ≡ None → IsNumberBelow s array b
below_elements s array e b inside least none n h i v is it has =
    let x = least n v (element s array e n h i v is inside it has) in
    subst (λ w. IsAtLeast s.names.now h b w) (sym x.1) (b.add, subst (λ o. IsNumber s.names.now h o b.add b.add) (sym none) refl, x.2)

sure_most : (s : AbstractState) (n : ℕ) (h : Bindings) (m : Bound) (v : Value) → IsSure s m → Describes s n h → IsUpTo s.names.now h (Some m) v → IsAtMost s.names.now h m v
sure_most s n h m (values.Text bytes) sure it up = absurd up
sure_most s n h m (values.Int x) sure it up = let z = sure n h it in (z.0, z.1, up z.0 z.1)

pub most_by : (s : AbstractState) (f : Filling) (array : ℕ) (first : Limits) (second : Option Limits) (m : Bound) → f.most ≡ Some m → name_at s.names.now f.array ≡ name_at s.names.now array → AreLimitedIn s first second f.block → IsSure s m → IsMostOf s (facts.Filled f) array first second m
most_by s f array first second m is same are sure n h indices v it stands limited has =
    let names = s.names.now in
    let here : HasValue names h f.array indices f.most = stands indices (are n h indices it limited) in
    let own : value_at h (at_key (name_at names array) indices) ≡ Some here.value = subst (λ q. value_at h (at_key q indices) ≡ Some here.value) same here.is in
    let one : here.value ≡ v = cc (own, has) in
    sure_most s n h m v sure it (subst (λ o. IsUpTo names h o v) is (subst (λ w. IsUpTo names h f.most w) one here.up_to))

pub high_push : (s : AbstractState) (array : ℕ) (first : Limits) (second : Option Limits) (all : List Bound) (m : Bound) (k : ℕ) (e : Fact) → k < length s.facts.now → IsMostOf s (get_or s.facts.now k e) array first second m → HighsOfElement s array first second all → HighsOfElement s array first second (all ++ m ∷ [])
high_push s array first second all m k e inside most so_far n h is v it limited has = most_push s.names.now h all m v (so_far n h is v it limited has) (most n h is v it (all_at s.names.now h s.facts.now k e inside it.facts) limited has)

above_at : (s : AbstractState) (array : ℕ) (b : Bound) (n : ℕ) (h : Bindings) (first : Limits) (second : Option Limits) (is : List Value) (v : Value) → IsNumberAbove s array b → Describes s n h → AreLimited s.names.now h first second is → value_at h (at_key (name_at s.names.now array) is) ≡ Some v → IsAtMost s.names.now h b v
above_at s array b n h first second [] v above it limited has = absurd limited
above_at s array b n h first second (i ∷ is) v above it limited has = above n h i v is it has

pub number_push : (s : AbstractState) (array : ℕ) (first : Limits) (second : Option Limits) (all : List Bound) (b : Bound) → IsNumberAbove s array b → HighsOfElement s array first second all → HighsOfElement s array first second (all ++ b ∷ [])
number_push s array first second all b above so_far n h is v it limited has = most_push s.names.now h all b v (so_far n h is v it limited has) (above_at s array b n h first second is v above it limited has)

pub element_known : (s : AbstractState) (array : ℕ) (first : Limits) (second : Option Limits) (l : ValueLimits) (cell : Option Cell) → l.exact ≡ None → l.source ≡ Some (record { array = array; cell = cell }) → IsCellAt first second cell → LowsOfElement s array l.lows.items → HighsOfElement s array first second l.highs.items → KnowsElement s array first second l
element_known s array first second l cell none source is lows highs n h [] v it limited has = absurd limited
element_known s array first second l cell none source at lows highs n h (i ∷ is) v it limited has = record {
  exact = subst (λ o. IsExactly s.names.now h o v) (sym none) tt;
  lows = lows n h i v is it has;
  highs = highs n h (i ∷ is) v it limited has;
  source = subst (λ o. IsElementOf s.names.now h o v) (sym source) (i, is, has, at s.names.now h (i ∷ is) limited);
}

pub when_ok : {A E : Type 0} {P Q : A → Type 0} (r : Result A E) → ((x : A) → P x → Q x) → IfOk r P → IfOk r Q
when_ok (Ok x) more holds = more x holds
when_ok (Err e) more holds = tt

pub above_some : (s : AbstractState) (array : ℕ) (e : AbstractValue) (g : ℤ) (r : Option Bound) → array < length s.entries.now → IsGreatestElement (get_or s.entries.now array e) g → IfSome r (λ b. (b.term ≡ None) × (b.add ≡ g)) → IfSome r (λ b. IsNumberAbove s array b)
above_some s array e g None inside greatest is = tt
above_some s array e g (Some b) inside greatest is = above_elements s array e b inside (subst (λ z. IsGreatestElement (get_or s.entries.now array e) z) (sym is.1) greatest) is.0

pub below_some : (s : AbstractState) (array : ℕ) (e : AbstractValue) (g : ℤ) (r : Option Bound) → array < length s.entries.now → IsLeastElement (get_or s.entries.now array e) g → IfSome r (λ b. (b.term ≡ None) × (b.add ≡ g)) → IfSome r (λ b. IsNumberBelow s array b)
below_some s array e g None inside least is = tt
below_some s array e g (Some b) inside least is = below_elements s array e b inside (subst (λ z. IsLeastElement (get_or s.entries.now array e) z) (sym is.1) least) is.0

-- a name at indices
pub named_element : (s : AbstractState) (i : ℕ) (name : List ℕ) (first : Limits) (second : Option Limits) (l : ValueLimits) → name_at s.names.now i ≡ name → KnowsElement s i first second l → KnowsAt s name first second l
named_element s i name first second l named knows n h is v it limited at = knows n h is v it limited (subst (λ m. value_at h (at_key m is) ≡ Some v) (sym named) at)
