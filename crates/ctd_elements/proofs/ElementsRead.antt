-- Which elements surely have values.
use Rattle.ctd_elements.specs.declared.fact.Source.{Source}
use Rattle.ctd_elements.proofs.Common.{AbstractState, AreExcepted, Keys, Bindings, Bor, Fact, Filling, Has, HasValue, Interval, IsOn, List, None, Option, Some, Value, [], at_key, get_or, length, name_at, subst, sym, value_at, ℕ, ◌<◌, ◌∷◌, ◌≡◌, ◌⊎◌, inl, inr}
use Rattle.ctd_elements.specs.declared.limits.Limits.{Limits}
use Rattle.ctd_elements.specs.calls.Limits.{IsAtLeast, IsElementOf}
use Rattle.ctd_elements.specs.calls.Reading.{HasElement, AreLimitedIn}
use Rattle.ctd_elements.specs.inner.Limits.{IsBelow, IsLimitedBelow, IsSureFrom}
use Rattle.ctd_elements.specs.inner.Reading.{HasElementBy, IsLimitedOn}
use Rattle.ctd_elements.specs.declared.fact.Fact.TheVariants as facts
use Rattle.ctd_elements.specs.declared.fact.Side.TheVariants as sides
use Rattle.ctd_store.specs.declared.value.Value.TheVariants as values
use Rattle.ctd_elements.proofs.Bounds.{all_at}

lies : (names : List (Bor (List ℕ))) (h : Bindings) (s : Interval) (v : Value) → IsAtLeast names h s.low v → IsBelow names h s.high v → IsOn names h (sides.Between s) v
lies names h s (values.Text bytes) from below = absurd from
lies names h s (values.Int x) from below = record { low = from.0; high = below.0; is_low = from.1; is_high = below.1; above = from.2; below = below.2 }

pub interval_limits : (s : AbstractState) (limits : Limits) (side : Interval) → IsSureFrom s limits side.low → IsLimitedBelow s limits side.high → IsLimitedOn s limits (sides.Between side)
interval_limits s limits side from below n h v it is = lies s.names.now h side v (from n h v it is) (below n h v it is)

pub filling_has : (s : AbstractState) (f : Filling) (array : ℕ) (first : Limits) (second : Option Limits) → name_at s.names.now f.array ≡ name_at s.names.now array → AreLimitedIn s first second f.block → HasElementBy s (facts.Filled f) array first second
filling_has s f array first second same are n h indices it stands limited =
    let here : HasValue s.names.now h f.array indices f.most = stands indices (are n h indices it limited) in
    (here.value, subst (λ m. value_at h (at_key m indices) ≡ Some here.value) same here.is)

pub element_of : (s : AbstractState) (k : ℕ) (e : Fact) (array : ℕ) (first : Limits) (second : Option Limits) → k < length s.facts.now → HasElementBy s (get_or s.facts.now k e) array first second → HasElement s array first second
element_of s k e array first second inside has n h indices it limited = has n h indices it (all_at s.names.now h s.facts.now k e inside it.facts) limited

either_none : {A : Type 0} → A ⊎ ⊥ → A
either_none (inl a) = a
either_none (inr never) = absurd never

-- an index that is an element of an array whose elements are keys
pub key_by : (s : AbstractState) (k : Keys) (array : ℕ) (source : Source) (limits : Limits) → limits.source ≡ Some source → k.except ≡ None → name_at s.names.now k.array ≡ name_at s.names.now source.array → name_at s.names.now k.other ≡ name_at s.names.now array → HasElementBy s (facts.ValuesAreKeys k) array limits None
key_by s k array source limits is none same also n h [] it stands limited = absurd limited
key_by s k array source limits is none same also n h (i ∷ j ∷ js) it stands limited = absurd limited
key_by s k array source limits is none same also n h (i ∷ []) it stands limited =
    let names = s.names.now in
    let at : IsElementOf names h (Some source) i = subst (λ o. IsElementOf names h o i) is limited.source in
    let has : Has names h k.other (i ∷ []) ⊎ AreExcepted names h None (at.0 ∷ at.1) = subst (λ o. Has names h k.other (i ∷ []) ⊎ AreExcepted names h o (at.0 ∷ at.1)) none (stands at.0 i at.1 (subst (λ m. value_at h (at_key m (at.0 ∷ at.1)) ≡ Some i) (sym same) at.2)) in
    subst (λ m. (w : Value) × (value_at h (at_key m (i ∷ [])) ≡ Some w)) also (either_none has)
