-- Which facts follow from others.
use Rattle.ctd_elements.proofs.Common.{AbstractState, AbstractValue, AreIn, AreOn, Bindings, Bor, Bound, Describes, Fact, Filling, Has, HasValue, Implies, Interval, IsBound, IsOn, IsUpTo, Keys, LiesIn, List, MayBe, NameStands, None, Option, Side, Some, Stands, Value, [], arith, at_key, entry_value, get_or, inl, inr, ints, le_or_lt, length, more_sides, name_at, refl, subst, sym, value_at, ℕ, ℤ, ◌<◌, ◌<ℤ◌, ◌∷◌, ◌≡◌, ◌≤ℤ◌, ◌⊎◌}
use Rattle.ctd_range.specs.declared.range.Range.{Range}
use Rattle.ctd_elements.specs.calls.Orders.{IsLeast, IsExceptedBy, IsGreatestElement}
use Rattle.ctd_elements.specs.inner.Parts.{IsInside, IsTighter}
use Rattle.ctd_elements.specs.inner.Following.{Halves, HasNoElement, ImpliesBy, IsSmallAnyway}
use Rattle.ctd_elements.specs.declared.fact.Fact.TheVariants as facts
use Rattle.ctd_elements.specs.declared.fact.Side.TheVariants as sides
use Rattle.ctd_store.specs.declared.value.Value.TheVariants as values
use Rattle.ctd_elements.proofs.Bounds.{all_at}

pub filled_by : (s : AbstractState) (f other : Filling) → f.array ≡ other.array → IsInside s f.block other.block → IsTighter s other.most f.most → ImpliesBy s (facts.Filled f) (facts.Filled other)
filled_by s f other same inside tighter n h it stands is on =
    let names = s.names.now in
    let here : HasValue names h other.array is other.most = stands is (inside n h is it on) in
    record { value = here.value; is = subst (λ a. value_at h (at_key (name_at names a) is) ≡ Some here.value) (sym same) here.is; up_to = tighter n h here.value it here.up_to }

either_by : {A B C D : Type 0} → (A → C) → (B → D) → A ⊎ B → C ⊎ D
either_by f g (inl a) = inl (f a)
either_by f g (inr b) = inr (g b)

pub keys_by : (s : AbstractState) (k other : Keys) → k.array ≡ other.array → k.other ≡ other.other → IsExceptedBy s other.except k.except → ImpliesBy s (facts.KeysWithin k) (facts.KeysWithin other)
keys_by s k other same also excepted n h it stands i v is has =
    let names = s.names.now in
    either_by (λ w. subst (λ a. Has names h a (i ∷ is)) (sym also) w) (λ on. excepted n h (i ∷ is) it on) (stands i v is (subst (λ a. value_at h (at_key (name_at names a) (i ∷ is)) ≡ Some v) same has))

pub values_by : (s : AbstractState) (k other : Keys) → k.array ≡ other.array → k.other ≡ other.other → IsExceptedBy s other.except k.except → ImpliesBy s (facts.ValuesAreKeys k) (facts.ValuesAreKeys other)
values_by s k other same also excepted n h it stands i v is has =
    let names = s.names.now in
    either_by (λ w. subst (λ a. Has names h a (v ∷ [])) (sym also) w) (λ on. excepted n h (i ∷ is) it on) (stands i v is (subst (λ a. value_at h (at_key (name_at names a) (i ∷ is)) ≡ Some v) same has))

pub implied_by : (s : AbstractState) (f g fact other : Fact) → fact ≡ f → other ≡ g → ImpliesBy s f g → ImpliesBy s fact other
implied_by s f g fact other is_f is_g by n h it stands = subst (λ (q : Fact). Stands s.names.now h q) (sym is_f) (by n h it (subst (λ (q : Fact). Stands s.names.now h q) is_g stands))

pub implied : (s : AbstractState) (f fact : Fact) → fact ≡ f → Implies s f → Implies s fact
implied s f fact is by n h it = subst (λ (q : Fact). Stands s.names.now h q) (sym is) (by n h it)

-- an index lies before a bound or not
by_cell : (names : List (Bor (List ℕ))) (h : Bindings) (f : Filling) (s : Interval) (at : Bound) (y k : ℤ) (is : List Value) → IsBound names h at y → LiesIn names h s k → AreOn names h (more_sides f.block.second) is → (y ≤ℤ k) ⊎ (k <ℤ y)
    → Stands names h (facts.Filled (record { array = f.array; block = record { first = sides.Between (record { low = s.low; high = at }); second = f.block.second }; most = f.most }))
    → Stands names h (facts.Filled (record { array = f.array; block = record { first = sides.Between (record { low = at; high = s.high }); second = f.block.second }; most = f.most })) → HasValue names h f.array (values.Int k ∷ is) f.most
by_cell names h f s at y k is number lies rest (inl above) left right = right (values.Int k ∷ is) (record { low = y; high = lies.high; is_low = number; is_high = lies.is_high; above = above; below = lies.below }, rest)
by_cell names h f s at y k is number lies rest (inr below) left right = left (values.Int k ∷ is) (record { low = lies.low; high = y; is_low = lies.is_low; is_high = number; above = lies.above; below = below }, rest)

first_by : (names : List (Bor (List ℕ))) (h : Bindings) (f : Filling) (s : Interval) (at : Bound) (y : ℤ) (is : List Value) → IsBound names h at y → AreOn names h (sides.Between s ∷ more_sides f.block.second) is
    → Stands names h (facts.Filled (record { array = f.array; block = record { first = sides.Between (record { low = s.low; high = at }); second = f.block.second }; most = f.most }))
    → Stands names h (facts.Filled (record { array = f.array; block = record { first = sides.Between (record { low = at; high = s.high }); second = f.block.second }; most = f.most })) → HasValue names h f.array is f.most
first_by names h f s at y [] number on left right = absurd on
first_by names h f s at y (values.Text bytes ∷ is) number on left right = absurd on.0
first_by names h f s at y (values.Int k ∷ is) number on left right = by_cell names h f s at y k is number on.0 on.1 (le_or_lt y k) left right

pub first_halves : (f left right : Filling) (s : Interval) (at : Bound) (parts : Side × Side) → f.block.first ≡ sides.Between s → parts ≡ (sides.Between (record { low = s.low; high = at }), sides.Between (record { low = at; high = s.high }))
    → left ≡ record { array = f.array; block = record { first = parts.0; second = f.block.second }; most = f.most } → right ≡ record { array = f.array; block = record { first = parts.1; second = f.block.second }; most = f.most } → Halves f at (left, right)
first_halves f left right s at parts is_first are is_left is_right names h y number lefts rights is on =
    first_by names h f s at y is number (subst (λ (q : Side). AreOn names h (q ∷ more_sides f.block.second) is) is_first on)
    (subst (λ (p : Side × Side). Stands names h (facts.Filled (record { array = f.array; block = record { first = p.0; second = f.block.second }; most = f.most }))) are (subst (λ (g : Filling). Stands names h (facts.Filled g)) is_left lefts))
    (subst (λ (p : Side × Side). Stands names h (facts.Filled (record { array = f.array; block = record { first = p.1; second = f.block.second }; most = f.most }))) are (subst (λ (g : Filling). Stands names h (facts.Filled g)) is_right rights))

-- the same on the second side
by_row : (names : List (Bor (List ℕ))) (h : Bindings) (f : Filling) (s : Interval) (at : Bound) (y k : ℤ) (i : Value) (is : List Value) → IsBound names h at y → IsOn names h f.block.first i → LiesIn names h s k → AreOn names h [] is → (y ≤ℤ k) ⊎ (k <ℤ y)
    → Stands names h (facts.Filled (record { array = f.array; block = record { first = f.block.first; second = Some (sides.Between (record { low = s.low; high = at })) }; most = f.most }))
    → Stands names h (facts.Filled (record { array = f.array; block = record { first = f.block.first; second = Some (sides.Between (record { low = at; high = s.high })) }; most = f.most })) → HasValue names h f.array (i ∷ values.Int k ∷ is) f.most
by_row names h f s at y k i is number on lies rest (inl above) left right = right (i ∷ values.Int k ∷ is) (on, (record { low = y; high = lies.high; is_low = number; is_high = lies.is_high; above = above; below = lies.below }, rest))
by_row names h f s at y k i is number on lies rest (inr below) left right = left (i ∷ values.Int k ∷ is) (on, (record { low = lies.low; high = y; is_low = lies.is_low; is_high = number; above = lies.above; below = below }, rest))

second_by : (names : List (Bor (List ℕ))) (h : Bindings) (f : Filling) (s : Interval) (at : Bound) (y : ℤ) (is : List Value) → IsBound names h at y → AreOn names h (f.block.first ∷ sides.Between s ∷ []) is
    → Stands names h (facts.Filled (record { array = f.array; block = record { first = f.block.first; second = Some (sides.Between (record { low = s.low; high = at })) }; most = f.most }))
    → Stands names h (facts.Filled (record { array = f.array; block = record { first = f.block.first; second = Some (sides.Between (record { low = at; high = s.high })) }; most = f.most })) → HasValue names h f.array is f.most
second_by names h f s at y [] number on left right = absurd on
second_by names h f s at y (i ∷ []) number on left right = absurd on.1
second_by names h f s at y (i ∷ values.Text bytes ∷ is) number on left right = absurd on.1.0
second_by names h f s at y (i ∷ values.Int k ∷ is) number on left right = by_row names h f s at y k i is number on.0 on.1.0 on.1.1 (le_or_lt y k) left right

pub second_halves : (f left right : Filling) (s : Interval) (at : Bound) (parts : Side × Side) → f.block.second ≡ Some (sides.Between s) → parts ≡ (sides.Between (record { low = s.low; high = at }), sides.Between (record { low = at; high = s.high }))
    → left ≡ record { array = f.array; block = record { first = f.block.first; second = Some parts.0 }; most = f.most } → right ≡ record { array = f.array; block = record { first = f.block.first; second = Some parts.1 }; most = f.most } → Halves f at (left, right)
second_halves f left right s at parts is_second are is_left is_right names h y number lefts rights is on =
    second_by names h f s at y is number (subst (λ (o : Option Side). AreOn names h (f.block.first ∷ more_sides o) is) is_second on)
    (subst (λ (p : Side × Side). Stands names h (facts.Filled (record { array = f.array; block = record { first = f.block.first; second = Some p.0 }; most = f.most }))) are (subst (λ (g : Filling). Stands names h (facts.Filled g)) is_left lefts))
    (subst (λ (p : Side × Side). Stands names h (facts.Filled (record { array = f.array; block = record { first = f.block.first; second = Some p.1 }; most = f.most }))) are (subst (λ (g : Filling). Stands names h (facts.Filled g)) is_right rights))

pub from_one : (s : AbstractState) (f : Fact) (i : ℕ) (e : Fact) → i < length s.facts.now → ImpliesBy s f (get_or s.facts.now i e) → Implies s f
from_one s f i e inside by n h it = by n h it (all_at s.names.now h s.facts.now i e inside it.facts)

pub one_of_known : (s : AbstractState) (f : Fact) (i : ℕ) (e : Fact) → i < length s.facts.now → get_or s.facts.now i e ≡ f → Implies s f
one_of_known s f i e inside is n h it = subst (λ (q : Fact). Stands s.names.now h q) is (all_at s.names.now h s.facts.now i e inside it.facts)

-- elements, by the abstract value of the array
element : (s : AbstractState) (array : ℕ) (e : AbstractValue) (n : ℕ) (h : Bindings) (i v : Value) (is : List Value) → array < length s.entries.now → Describes s n h → value_at h (at_key (name_at s.names.now array) (i ∷ is)) ≡ Some v → MayBe (get_or s.entries.now array e).elements n v
element s array e n h i v is inside it has =
    let stands : NameStands (name_at s.names.now array) (get_or s.entries.now array e) n h = entry_value s.names.now s.entries.now array e (name_at s.names.now array) inside refl n h it.values in
    stands.elements i is v has

none_may : (value : AbstractValue) (n : ℕ) (v : Value) → value.elements.text ≡ None → value.elements.number ≡ None → MayBe value.elements n v → ⊥
none_may value n (values.Int x) no_text no_number may = absurd (cc (no_number, may.1))
none_may value n (values.Text bytes) no_text no_number may = absurd (cc (no_text, may.1))

pub no_element : (s : AbstractState) (array : ℕ) (e : AbstractValue) → array < length s.entries.now → ((get_or s.entries.now array e).elements.text ≡ None) × ((get_or s.entries.now array e).elements.number ≡ None) → HasNoElement s array
no_element s array e inside none n h i v is it has = none_may (get_or s.entries.now array e) n v none.0 none.1 (element s array e n h i v is inside it has)

pub greatest_is : (value : AbstractValue) (r : Range) → value.elements.text ≡ None → value.elements.number ≡ Some r → IsGreatestElement value r.high
greatest_is value r no_text number n (values.Text bytes) may = absurd (cc (no_text, may.1))
greatest_is value r no_text number n (values.Int x) may =
    let same : may.0 ≡ r = cc (may.1, number) in
    let high : may.0.high ≡ r.high = subst (λ (q : Range). may.0.high ≡ q.high) same refl in
    (x, refl, omega (arith, ints, may.2.high, high))

pub small_by : (s : AbstractState) (array : ℕ) (e : AbstractValue) (most : Bound) (g : ℤ) → array < length s.entries.now → IsGreatestElement (get_or s.entries.now array e) g → IsLeast s most g → IsSmallAnyway s array most
small_by s array e most g inside greatest least n h i v is it has =
    let x = greatest n v (element s array e n h i v is inside it has) in
    subst (λ w. IsUpTo s.names.now h (Some most) w) (sym x.1) (λ z number. omega (arith, ints, x.2, least n h z it number))

small_value : (s : AbstractState) (f : Filling) (most : Bound) (n : ℕ) (h : Bindings) (is : List Value) → Describes s n h → IsSmallAnyway s f.array most → f.most ≡ Some most → AreIn s.names.now h f.block is → HasValue s.names.now h f.array is None → HasValue s.names.now h f.array is f.most
small_value s f most n h [] it small is on here = absurd on
small_value s f most n h (i ∷ js) it small is on here = record { value = here.value; is = here.is; up_to = subst (λ o. IsUpTo s.names.now h o here.value) (sym is) (small n h i here.value js it here.is) }
