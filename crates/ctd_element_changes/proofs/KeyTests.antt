-- What UNIQUE and INARRAY say of arrays whose keys are those of others.
use Rattle.ctd_element_changes.proofs.Common.{AbstractState, AbstractValue, AreOn, Bindings, Bool, Describes, Fact, Filling, Has, Implies, Index, IsUpTo, Keys, List, MayHave, NameStands, None, Some, Stands, Value, [], ap, arith, at_key, entry_value, exact_values, false, get_or, inl, inr, is_some, length, name_at, more_sides, refl, subst, suc, sym, tells_apart, true, value_at, ℕ, ◌++◌, ◌<◌, ◌∙◌, ◌∷◌, ◌≡◌, ◌⊎◌}
use Rattle.std.proofs.Common.{Ok, ◌&&◌, ◌||◌}
use Rattle.std.specs.List.{Contains, list_any}
use Rattle.std.proofs.lemmas.List.Elements.{All-contains_itself, All-weaker, Contains-get_or}
use Rattle.std.proofs.lemmas.List.Sums.{list_all-from_AllPass}
use Rattle.ctd_store.specs.Order.{same_value}
use Rattle.ctd_store.specs.Store.{Array, has_indices, values_of}
use Rattle.ctd_store.proofs.Lookups.{in_values}
use Rattle.ctd_store.proofs.StoreLaws.{values_are_those_of_the_keys}
use Rattle.ctd_value.specs.Truth.{is_within, value_in_array}
use Rattle.ctd_elements.specs.declared.limits.Limits.{Limits}
use Rattle.ctd_elements.specs.calls.Limits.{IsExactly}
use Rattle.ctd_elements.specs.calls.Orders.{IsPart}
use Rattle.ctd_element_changes.specs.calls.Tests.{HaveOneShape, IsHit}
use Rattle.ctd_element_changes.specs.inner.Keys.{AreKeysWithin, AreValuesKeys, IsExactlySide, IsHitBy, LacksAlone}
use Rattle.ctd_elements.specs.declared.fact.Side.{Side}
use Rattle.ctd_elements.specs.declared.fact.Fact.TheVariants as facts
use Rattle.ctd_elements.specs.declared.fact.Side.TheVariants as sides
use Rattle.ctd_store.specs.declared.value.Value.TheVariants as values
use Rattle.ctd_element_changes.proofs.Assigned.{all_push}
use Rattle.ctd_element_changes.proofs.Giving.{none_left, one_value}

none_may : (value : AbstractValue) (n : ℕ) (v : Value) → value.alone.text ≡ None → value.alone.number ≡ None → MayHave value n (Some v) → ⊥
none_may value n (values.Int x) no_text no_number may = absurd (cc (no_number, may.1))
none_may value n (values.Text bytes) no_text no_number may = absurd (cc (no_text, may.1))

pub lacks : (s : AbstractState) (i : ℕ) (e : AbstractValue) → i < length s.entries.now → ((get_or s.entries.now i e).alone.text ≡ None) × ((get_or s.entries.now i e).alone.number ≡ None) → LacksAlone s i
lacks s i e inside none n h v it has =
    let stands : NameStands (name_at s.names.now i) (get_or s.entries.now i e) n h = entry_value s.names.now s.entries.now i e (name_at s.names.now i) inside refl n h it.values in
    none_may (get_or s.entries.now i e) n v none.0 none.1 (subst (λ o. MayHave (get_or s.entries.now i e) n o) has stands.alone)

none_excepted : {A : Type 0} → A ⊎ ⊥ → A
none_excepted (inl a) = a
none_excepted (inr never) = absurd never

pub within_by : (s : AbstractState) (i j : ℕ) (k : Keys) → LacksAlone s i → k ≡ record { array = i; other = j; except = None } → Implies s (facts.KeysWithin k) → AreKeysWithin s i j
within_by s i j k lack is implies n h [] v it has = absurd (lack n h v it has)
within_by s i j k lack is implies n h (x ∷ xs) v it has = none_excepted ((subst (λ (q : Keys). Stands s.names.now h (facts.KeysWithin q)) is (implies n h it)) x v xs has)

pub values_by : (s : AbstractState) (i j : ℕ) (k : Keys) → LacksAlone s i → k ≡ record { array = i; other = j; except = None } → Implies s (facts.ValuesAreKeys k) → AreValuesKeys s i j
values_by s i j k lack is implies n h [] v it has = absurd (lack n h v it has)
values_by s i j k lack is implies n h (x ∷ xs) v it has = none_excepted ((subst (λ (q : Keys). Stands s.names.now h (facts.ValuesAreKeys q)) is (implies n h it)) x v xs has)

-- an entry of an array that has such a key
entry_passes : (s : AbstractState) (i j n : ℕ) (h : Bindings) → AreKeysWithin s i j → Describes s n h → (e : List Value × Value) → Contains (values_of h (name_at s.names.now i)) e → has_indices (values_of h (name_at s.names.now j)) e.0 ≡ true
entry_passes s i j n h keys it e among =
    let name = name_at s.names.now i in
    let has : value_at h (at_key name e.0) ≡ Some e.1 = (values_are_those_of_the_keys h name e.0 e.1).0 among in
    let there = keys n h e.0 e.1 it has in
    ap is_some (in_values h (name_at s.names.now j) e.0 ∙ there.1)

arrays_within : (s : AbstractState) (i j n : ℕ) (h : Bindings) → AreKeysWithin s i j → Describes s n h → is_within (values_of h (name_at s.names.now i)) (values_of h (name_at s.names.now j)) ≡ true
arrays_within s i j n h keys it =
    let own = values_of h (name_at s.names.now i) in
    let other = values_of h (name_at s.names.now j) in
    list_all-from_AllPass (λ e. has_indices other e.0) own (All-weaker (Contains own) (λ e. has_indices other e.0 ≡ true) (entry_passes s i j n h keys it) own (All-contains_itself own))

both_true : (a b : Bool) → a ≡ true → b ≡ true → (a && b) ≡ true
both_true a b p q = ap (λ x. x && b) p ∙ q

pub one_shape : (s : AbstractState) (i j : ℕ) → AreKeysWithin s i j → AreKeysWithin s j i → HaveOneShape s i j
one_shape s i j there back n h it = both_true _ _ (arrays_within s i j n h there it) (arrays_within s j i n h back it)

-- the value that is found
abbrev IsFound : Value → Array → List Value × Value → Type 0
IsFound v array d = (i : ℕ) × (i < length array) × (same_value v (get_or array i d).1 ≡ true)

found_first : (v : Value) (e : List Value × Value) (es : Array) (d : List Value × Value) (b : Bool) → same_value v e.1 ≡ b → (list_any (λ x. same_value v x.1) es ≡ true → IsFound v es d) → (b || list_any (λ x. same_value v x.1) es) ≡ true → IsFound v (e ∷ es) d
found_first v e es d true is rest any = (0, omega arith, is)
found_first v e es d false differs rest any = let it = rest any in (suc it.0, omega (arith, it.1), it.2)

found : (v : Value) (array : Array) (d : List Value × Value) → list_any (λ x. same_value v x.1) array ≡ true → IsFound v array d
found v [] d any = absurd (cc any)
found v (e ∷ es) d any = found_first v e es d (same_value v e.1) refl (found v es d) any

has_key : (s : AbstractState) (i j n : ℕ) (h : Bindings) (v : Value) → AreValuesKeys s i j → Describes s n h → value_in_array (Ok v) (values_of h (name_at s.names.now i)) ≡ Ok true → Has s.names.now h j (v ∷ [])
has_key s i j n h v keys it is =
    let name = name_at s.names.now i in
    let array = values_of h name in
    let any : list_any (λ e. same_value v e.1) array ≡ true = cc is in
    let d : List Value × Value = ([], v) in
    let here = found v array d any in
    let e : List Value × Value = get_or array here.0 d in
    let has : value_at h (at_key name e.0) ≡ Some e.1 = (values_are_those_of_the_keys h name e.0 e.1).0 (Contains-get_or array here.0 d here.1) in
    let same : v ≡ e.1 = tells_apart exact_values v e.1 here.2 in
    subst (λ y. Has s.names.now h j (y ∷ [])) (sym same) (keys n h e.0 e.1 it has)

pub exactly_side : (s : AbstractState) (side : Side) (limits : Limits) (index : Index) → limits.exact ≡ Some index → IsPart s side (sides.At index) → IsExactlySide s side limits
exactly_side s side limits index is part n h v k it limited on = one_value s.names.now h index k v (part n h k it on) (subst (λ o. IsExactly s.names.now h o v) is limited.exact)

pub hit_by : (s : AbstractState) (f : Filling) (limits : Limits) (array : ℕ) → f.most ≡ None → f.block.second ≡ None → IsExactlySide s f.block.first limits → AreValuesKeys s array f.array → IsHitBy s limits array (facts.Filled f)
hit_by s f limits array loose single exactly keys n h v it limited is [] on = absurd on
hit_by s f limits array loose single exactly keys n h v it limited is (k ∷ ks) on =
    let names = s.names.now in
    let same : k ≡ v = exactly n h v k it limited on.0 in
    let none : ks ≡ [] = none_left names h ks (subst (λ o. AreOn names h (more_sides o) ks) single on.1) in
    let has : Has names h f.array (v ∷ []) = has_key s array f.array n h v keys it is in
    let there : Has names h f.array (k ∷ ks) = subst (λ l. Has names h f.array l) (sym (ap (λ q. q ∷ ks) same ∙ ap (λ l. v ∷ l) none)) has in
    record { value = there.0; is = there.1; up_to = subst (λ o. IsUpTo names h o there.0) (sym loose) tt }

pub hit_push : (s : AbstractState) (limits : Limits) (array : ℕ) (after : List Fact) (f : Fact) → IsHit s limits array after → IsHitBy s limits array f → IsHit s limits array (after ++ f ∷ [])
hit_push s limits array after f all one n h v it limited is = all_push s.names.now h after f (all n h v it limited is) (one n h v it limited is)
