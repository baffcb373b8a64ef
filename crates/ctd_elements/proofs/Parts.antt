-- Which blocks are parts of others.
use Rattle.ctd_elements.proofs.Common.{AbstractState, AbstractValue, Bindings, Bor, Bound, Index, Interval, IsAt, IsBound, IsNumber, List, MayHave, NameStands, None, Orders, Side, Some, Value, alone, arith, entry_value, get_or, ints, length, name_at, pos, refl, subst, sym, ℕ, ℤ, ◌*ℤ◌, ◌+ℤ◌, ◌-ℤ◌, ◌<◌, ◌≡◌}
use Rattle.ctd_elements.specs.inner.Parts.{IsEmpty}
use Rattle.ctd_elements.specs.calls.Orders.{IsBefore, IsBehind, IsNext, IsNumberOf, IsPart}
use Rattle.ctd_elements.specs.declared.fact.Index.TheVariants as indices
use Rattle.ctd_elements.specs.declared.fact.Side.TheVariants as sides
use Rattle.ctd_store.specs.declared.value.Value.TheVariants as values
use Rattle.ctd_elements.proofs.Bounds.{moved_number, one_number}

pub interval_part : (s : AbstractState) (a b : Interval) → IsBefore s b.low a.low → IsBehind s b.high a.high → IsPart s (sides.Between a) (sides.Between b)
interval_part s a b before behind n h (values.Text bytes) it on = on
interval_part s a b before behind n h (values.Int k) it on =
    let low = before n h on.low it on.is_low in
    let high = behind n h on.high it on.is_high in
    record { low = low.0; high = high.0; is_low = low.1; is_high = high.1; above = omega (arith, ints, low.2, on.above); below = omega (arith, ints, high.2, on.below) }

-- the bound that is one more
pub next_number : (names : List (Bor (List ℕ))) (h : Bindings) (b c : Bound) (x : ℤ) → IsNext b c → IsBound names h b x → IsBound names h c (x +ℤ pos 1)
next_number names h b c x next is =
    let there : IsBound names h c ((x -ℤ b.add) +ℤ c.add) = moved_number names h c.term b.add c.add x (subst (λ o. IsNumber names h o b.add x) (sym next.0) is) in
    let same : ((x -ℤ b.add) +ℤ c.add) ≡ (x +ℤ pos 1) = omega (arith, ints, next.1) in
    subst (λ z. IsBound names h c z) same there

pub number_part : (s : AbstractState) (a above : Bound) (b : Interval) → IsBefore s b.low a → IsNext a above → IsBehind s b.high above → IsPart s (sides.At (indices.Number a)) (sides.Between b)
number_part s a above b before next behind n h (values.Text bytes) it at = absurd at
number_part s a above b before next behind n h (values.Int k) it at =
    let low = before n h k it at in
    let high = behind n h (k +ℤ pos 1) it (next_number s.names.now h a above k next at) in
    record { low = low.0; high = high.0; is_low = low.1; is_high = high.1; above = low.2; below = omega (arith, ints, high.2) }

pub interval_number : (s : AbstractState) (a : Interval) (b above : Bound) → IsBefore s b a.low → IsNext b above → IsBehind s above a.high → IsPart s (sides.Between a) (sides.At (indices.Number b))
interval_number s a b above before next behind n h (values.Text bytes) it on = absurd on
interval_number s a b above before next behind n h (values.Int k) it on =
    let names = s.names.now in
    let low = before n h on.low it on.is_low in
    let high = behind n h on.high it on.is_high in
    let one : (high.0 -ℤ above.add) ≡ ((low.0 +ℤ pos 1) -ℤ above.add) = one_number names h above.term above.add above.add high.0 (low.0 +ℤ pos 1) high.1 (next_number names h b above low.0 next low.1) in
    let same : low.0 ≡ k = omega (arith, ints, one, low.2, high.2, on.above, on.below) in
    subst (λ z. IsBound names h b z) same low.1

pub index_number : (s : AbstractState) (a : Index) (number b : Bound) → IsNumberOf s a number → IsBefore s b number → IsBehind s b number → IsPart s (sides.At a) (sides.At (indices.Number b))
index_number s a number b is before behind n h (values.Text bytes) it at = is n h (values.Text bytes) it at
index_number s a number b is before behind n h (values.Int k) it at =
    let names = s.names.now in
    let at_number : IsBound names h number k = is n h (values.Int k) it at in
    let low = before n h k it at_number in
    let high = behind n h k it at_number in
    let one : (high.0 -ℤ b.add) ≡ (low.0 -ℤ b.add) = one_number names h b.term b.add b.add high.0 low.0 high.1 low.1 in
    let same : low.0 ≡ k = omega (arith, ints, one, low.2, high.2) in
    subst (λ z. IsBound names h b z) same low.1

-- the bound of a name
abbrev pub number_of_name : ℕ → Bound
number_of_name i = record { term = Some (record { name = i; times = 1 }); add = pos 0 }

once : (x : ℤ) → x ≡ (pos 1 *ℤ x) +ℤ pos 0
once x = grind (arith, ints)

pub value_number : (names : List (Bor (List ℕ))) (h : Bindings) (i : ℕ) (k : ℤ) → alone names h i ≡ Some (values.Int k) → IsBound names h (number_of_name i) k
value_number names h i k is = (k, is, once k)

no_text : (names : List (Bor (List ℕ))) (h : Bindings) (i n : ℕ) (value : AbstractValue) (v : Value) → value.alone.text ≡ None → MayHave value n (Some v) → alone names h i ≡ Some v → IsAt names h (indices.Number (number_of_name i)) v
no_text names h i n value (values.Int k) none may is = value_number names h i k is
no_text names h i n value (values.Text bytes) none may is = absurd (cc (none, may.1))

pub name_number : (s : AbstractState) (index : Index) (i : ℕ) (e : AbstractValue) (b : Bound) → index ≡ indices.Value i → i < length s.entries.now → (get_or s.entries.now i e).alone.text ≡ None → b ≡ number_of_name i → IsNumberOf s index b
name_number s index i e b is inside none same n h v it at =
    let names = s.names.now in
    let has : alone names h i ≡ Some v = subst (λ (q : Index). IsAt names h q v) is at in
    let stands : NameStands (name_at names i) (get_or s.entries.now i e) n h = entry_value names s.entries.now i e (name_at names i) inside refl n h it.values in
    let may : MayHave (get_or s.entries.now i e) n (Some v) = subst (λ o. MayHave (get_or s.entries.now i e) n o) has stands.alone in
    subst (λ (q : Bound). IsAt names h (indices.Number q) v) (sym same) (no_text names h i n (get_or s.entries.now i e) v none may has)

empty_interval : (s : AbstractState) (a : Interval) → Orders s a.high a.low → IsEmpty s (sides.Between a)
empty_interval s a orders n h (values.Text bytes) it on = on
empty_interval s a orders n h (values.Int k) it on = absurd (omega (arith, ints, orders n h it on.high on.low on.is_high on.is_low, on.above, on.below))

pub empty_side : (s : AbstractState) (side : Side) (a : Interval) → side ≡ sides.Between a → Orders s a.high a.low → IsEmpty s side
empty_side s side a is orders = subst (λ (q : Side). IsEmpty s q) (sym is) (empty_interval s a orders)
