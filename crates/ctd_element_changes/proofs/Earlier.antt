-- What was so before a name without indices got a value.
use Rattle.ctd_element_changes.proofs.Common.{AreExcepted, AreOn, Bindings, Block, Bor, Bound, Fact, Filling, Has, HasValue, Index, Interval, IsAt, IsBound, IsNumber, IsUpTo, Key, Keys, List, None, Option, Side, Some, Term, Value, [], alone, ap, arith, assign, assigned_key_has_its_value, assignment_keeps_other_keys, at_key, inl, inr, ints, more_sides, name_at, nothing_more, pos, refl, subst, sym, value_at, ℕ, ℤ, ◌*ℤ◌, ◌+ℤ◌, ◌∙◌, ◌∷◌, ◌≡◌, ◌≢◌, ◌⊎◌}
use Rattle.std.proofs.Common.{Bool, IfSome, false, not, true, ◌*◌}
use Rattle.ctd_elements.specs.calls.Limits.{IsExactly}
use Rattle.ctd_element_changes.specs.inner.Assigning.{GetsIndex}
use Rattle.ctd_element_changes.specs.inner.Free.{ExceptionIsFree}
use Rattle.ctd_element_changes.specs.inner.Before.{IsNumberIn, WasBlock, WasBound, WasFact, WasIndex, WasMost, WasSecond, WasSide}
use Rattle.ctd_element_changes.specs.calls.Changes.{IsMultiple}
use Rattle.ctd_elements.specs.declared.fact.Fact.TheVariants as facts
use Rattle.ctd_elements.specs.declared.fact.Index.TheVariants as indices
use Rattle.ctd_elements.specs.declared.fact.Side.TheVariants as sides
use Rattle.ctd_store.specs.declared.value.Value.TheVariants as values
use Rattle.ctd_element_changes.proofs.Sameness.{AreSameBut, free_exception}
use Rattle.ctd_elements.proofs.Multiples.{times_sum, times_times}

-- the variables once a name without indices got a value
abbrev pub given : Bindings → List ℕ → Value → Bindings
given h name v = assign h (at_key name []) v

other_key : (name other : List ℕ) (is : List Value) → other ≢ name → at_key other is ≢ at_key name []
other_key name other is apart same = apart (ap (λ (k : Key). k.name) same)

more_indices : (name other : List ℕ) (i : Value) (is : List Value) → at_key other (i ∷ is) ≢ at_key name []
more_indices name other i is same = let none : (i ∷ is) ≡ [] = ap (λ (k : Key). k.indices) same in absurd (cc none)

pub other_stays : (names : List (Bor (List ℕ))) (name : List ℕ) (i : ℕ) (h : Bindings) (v : Value) → name_at names i ≢ name → alone names (given h name v) i ≡ alone names h i
other_stays names name i h v apart = assignment_keeps_other_keys h (at_key name []) (at_key (name_at names i) []) v (other_key name (name_at names i) [] apart)

pub elements_stay : (name other : List ℕ) (h : Bindings) (i : Value) (is : List Value) (v : Value) → value_at (given h name v) (at_key other (i ∷ is)) ≡ value_at h (at_key other (i ∷ is))
elements_stay name other h i is v = assignment_keeps_other_keys h (at_key name []) (at_key other (i ∷ is)) v (more_indices name other i is)

pub got : (names : List (Bor (List ℕ))) (name : List ℕ) (exact : Option Index) (i : ℕ) (h : Bindings) (v : Value) → name_at names i ≡ name → GetsIndex names h name exact v → alone names (given h name v) i ≡ Some v
got names name exact i h v same gets = subst (λ m. value_at (given h name v) (at_key m []) ≡ Some v) (sym same) (assigned_key_has_its_value h (at_key name []) v gets.free)

-- multiples
pub term_multiple : (times : ℕ) (b c : Bound) (add : ℤ) (t : Term) → b.term ≡ Some t → c.term ≡ Some (record { name = t.name; times = t.times * times }) → c.add ≡ (pos times *ℤ b.add) +ℤ add → IsMultiple times b add c
term_multiple times b c add t is_b is_c sum names h x is =
    let at : IsNumber names h (Some t) b.add x = subst (λ o. IsNumber names h o b.add x) is_b is in
    let product : (pos times *ℤ x) ≡ (pos times *ℤ ((pos t.times *ℤ at.0) +ℤ b.add)) = ap (λ q. pos times *ℤ q) at.2 in
    let parts : (pos times *ℤ ((pos t.times *ℤ at.0) +ℤ b.add)) ≡ (pos times *ℤ (pos t.times *ℤ at.0)) +ℤ (pos times *ℤ b.add) = times_sum times (pos t.times *ℤ at.0) b.add in
    let whole : (pos (t.times * times) *ℤ at.0) ≡ (pos times *ℤ (pos t.times *ℤ at.0)) = times_times times t.times at.0 in
    subst (λ o. IsNumber names h o c.add ((pos times *ℤ x) +ℤ add)) (sym is_c) (at.0, at.1, omega (arith, ints, product, parts, whole, sum))

-- the number of an index
-- bounds
pub number_was : (names : List (Bor (List ℕ))) (name : List ℕ) (exact : Option Index) (b : Bound) → b.term ≡ None → WasBound names name exact b b
number_was names name exact b none h v z gets is =
    let same : z ≡ b.add = subst (λ o. IsNumber names (given h name v) o b.add z) none is in
    subst (λ o. IsNumber names h o b.add z) (sym none) same

term_same : (names : List (Bor (List ℕ))) (h g : Bindings) (b : Bound) (t : Term) (z : ℤ) → b.term ≡ Some t → alone names g t.name ≡ alone names h t.name → IsBound names h b z → IsBound names g b z
term_same names h g b t z named same is =
    let at : IsNumber names h (Some t) b.add z = subst (λ o. IsNumber names h o b.add z) named is in
    subst (λ o. IsNumber names g o b.add z) (sym named) (at.0, same ∙ at.1, at.2)

pub other_was : (names : List (Bor (List ℕ))) (name : List ℕ) (exact : Option Index) (b : Bound) (t : Term) → b.term ≡ Some t → name_at names t.name ≢ name → WasBound names name exact b b
other_was names name exact b t named apart h v z gets is = term_same names (given h name v) h b t z named (sym (other_stays names name t.name h v apart)) is

pub given_was : (names : List (Bor (List ℕ))) (name : List ℕ) (exact : Option Index) (b m c : Bound) (t : Term) (index : Index) → b.term ≡ Some t → name_at names t.name ≡ name → exact ≡ Some index → IsNumberIn index m → IsMultiple t.times m b.add c → WasBound names name exact b c
given_was names name exact b m c t index named same is number multiple h v z gets bound =
    let g = given h name v in
    let at : IsNumber names g (Some t) b.add z = subst (λ o. IsNumber names g o b.add z) named bound in
    let value : v ≡ values.Int at.0 = cc (at.1, got names name exact t.name h v same gets) in
    let exactly : IsAt names h index (values.Int at.0) = subst (λ w. IsAt names h index w) value (subst (λ o. IsExactly names h o v) is gets.is) in
    subst (λ y. IsBound names h c y) (sym at.2) (multiple names h at.0 (number names h at.0 exactly))

-- indices
pub number_index_was : (names : List (Bor (List ℕ))) (name : List ℕ) (exact : Option Index) (index : Index) (b old : Bound) → index ≡ indices.Number b → WasBound names name exact b old → WasIndex names name exact index (indices.Number old)
number_index_was names name exact index b old is was h v (values.Text bytes) gets at = absurd (subst (λ (q : Index). IsAt names (given h name v) q (values.Text bytes)) is at)
number_index_was names name exact index b old is was h v (values.Int k) gets at = was h v k gets (subst (λ (q : Index). IsAt names (given h name v) q (values.Int k)) is at)

pub own_value_was : (names : List (Bor (List ℕ))) (name : List ℕ) (exact : Option Index) (i : ℕ) (old : Index) → name_at names i ≡ name → exact ≡ Some old → WasIndex names name exact (indices.Value i) old
own_value_was names name exact i old same is h v w gets at =
    let value : v ≡ w = cc (at, got names name exact i h v same gets) in
    subst (λ u. IsAt names h old u) value (subst (λ o. IsExactly names h o v) is gets.is)

pub other_value_was : (names : List (Bor (List ℕ))) (name : List ℕ) (exact : Option Index) (i : ℕ) → name_at names i ≢ name → WasIndex names name exact (indices.Value i) (indices.Value i)
other_value_was names name exact i apart h v w gets at = sym (other_stays names name i h v apart) ∙ at

-- sides and blocks
pub interval_was : (names : List (Bor (List ℕ))) (name : List ℕ) (exact : Option Index) (new old : Interval) → WasBound names name exact new.low old.low → WasBound names name exact new.high old.high → WasSide names name exact (sides.Between new) (sides.Between old)
interval_was names name exact new old low high h v (values.Text bytes) gets on = on
interval_was names name exact new old low high h v (values.Int k) gets on = record { low = on.low; high = on.high; is_low = low h v on.low gets on.is_low; is_high = high h v on.high gets on.is_high; above = on.above; below = on.below }

pub second_was : (names : List (Bor (List ℕ))) (name : List ℕ) (exact : Option Index) (second : Option Side) (new old : Side) → second ≡ Some new → WasSide names name exact new old → WasSecond names name exact second (Some old)
second_was names name exact second new old is was h v [] gets on = absurd (subst (λ o. AreOn names (given h name v) (more_sides o) []) is on)
second_was names name exact second new old is was h v (i ∷ is_more) gets on = let at : AreOn names (given h name v) (new ∷ []) (i ∷ is_more) = subst (λ o. AreOn names (given h name v) (more_sides o) (i ∷ is_more)) is on in (was h v i gets at.0, nothing_more names (given h name v) h is_more at.1)

pub block_was : (names : List (Bor (List ℕ))) (name : List ℕ) (exact : Option Index) (new old : Block) → WasSide names name exact new.first old.first → WasSecond names name exact new.second old.second → WasBlock names name exact new old
block_was names name exact new old first second h v [] gets on = absurd on
block_was names name exact new old first second h v (i ∷ is) gets on = (first h v i gets on.0, second h v is gets on.1)

pub most_was : (names : List (Bor (List ℕ))) (name : List ℕ) (exact : Option Index) (most : Option Bound) (new old : Bound) → most ≡ Some new → WasBound names name exact new old → WasMost names name exact most (Some old)
most_was names name exact most new old is was h v (values.Text bytes) gets up = absurd up
most_was names name exact most new old is was h v (values.Int x) gets up = subst (λ o. IsUpTo names (given h name v) o (values.Int x)) (sym is) (λ z bound. up z (was h v z gets bound))

-- facts
pub filled_was : (names : List (Bor (List ℕ))) (name : List ℕ) (exact : Option Index) (new old : Filling) → new.array ≡ old.array → WasBlock names name exact new.block old.block → WasMost names name exact new.most old.most → WasFact names name exact (facts.Filled new) (facts.Filled old)
filled_was names name exact new old same block most h v gets stands [] on = absurd on
filled_was names name exact new old same block most h v gets stands (i ∷ is) on =
    let here : HasValue names h old.array (i ∷ is) old.most = stands (i ∷ is) (block h v (i ∷ is) gets on) in
    record { value = here.value; is = elements_stay name (name_at names new.array) h i is v ∙ subst (λ a. value_at h (at_key (name_at names a) (i ∷ is)) ≡ Some here.value) (sym same) here.is; up_to = most h v here.value gets here.up_to }

pub fact_was : (names : List (Bor (List ℕ))) (name : List ℕ) (exact : Option Index) (fact new old : Fact) → fact ≡ new → WasFact names name exact new old → WasFact names name exact fact old
fact_was names name exact fact new old is was = subst (λ (q : Fact). WasFact names name exact q old) (sym is) was

-- keys
has_stays : (names : List (Bor (List ℕ))) (name : List ℕ) (h : Bindings) (v : Value) (array : ℕ) (i : Value) (is : List Value) → Has names h array (i ∷ is) → Has names (given h name v) array (i ∷ is)
has_stays names name h v array i is has = (has.0, elements_stay name (name_at names array) h i is v ∙ has.1)

given_same : (names : List (Bor (List ℕ))) (name : List ℕ) (h : Bindings) (v : Value) → AreSameBut names name h (given h name v)
given_same names name h v j apart = sym (other_stays names name j h v apart)

keys_stay : (names : List (Bor (List ℕ))) (name : List ℕ) (h : Bindings) (v : Value) (k : Keys) (i : Value) (is : List Value) (j : Value) (js : List Value) → ExceptionIsFree names name k.except → Has names h k.other (j ∷ js) ⊎ AreExcepted names h k.except (i ∷ is) → Has names (given h name v) k.other (j ∷ js) ⊎ AreExcepted names (given h name v) k.except (i ∷ is)
keys_stay names name h v k i is j js free (inl has) = inl (has_stays names name h v k.other j js has)
keys_stay names name h v k i is j js free (inr excepted) = inr (free_exception names name h (given h name v) k.except (i ∷ is) (given_same names name h v) free excepted)

pub keys_was : (names : List (Bor (List ℕ))) (name : List ℕ) (exact : Option Index) (k : Keys) → ExceptionIsFree names name k.except → WasFact names name exact (facts.KeysWithin k) (facts.KeysWithin k)
keys_was names name exact k stays h v gets stands i w is has = keys_stay names name h v k i is i is stays (stands i w is (sym (elements_stay name (name_at names k.array) h i is v) ∙ has))

pub values_was : (names : List (Bor (List ℕ))) (name : List ℕ) (exact : Option Index) (k : Keys) → ExceptionIsFree names name k.except → WasFact names name exact (facts.ValuesAreKeys k) (facts.ValuesAreKeys k)
values_was names name exact k stays h v gets stands i w is has = keys_stay names name h v k i is w [] stays (stands i w is (sym (elements_stay name (name_at names k.array) h i is v) ∙ has))

pub own_value_some : (names : List (Bor (List ℕ))) (name : List ℕ) (exact : Option Index) (i : ℕ) → name_at names i ≡ name → IfSome exact (λ old. WasIndex names name exact (indices.Value i) old)
own_value_some names name None i same = tt
own_value_some names name (Some old) i same = own_value_was names name (Some old) i old same refl

pub given_some : (names : List (Bor (List ℕ))) (name : List ℕ) (exact : Option Index) (b m : Bound) (t : Term) (r : Option Bound) → b.term ≡ Some t → name_at names t.name ≡ name → (index : Index) × (exact ≡ Some index) × IsNumberIn index m → IfSome r (λ c. IsMultiple t.times m b.add c) → IfSome r (λ old. WasBound names name exact b old)
given_some names name exact b m t None named same it multiple = tt
given_some names name exact b m t (Some c) named same it multiple = given_was names name exact b m c t it.0 named same it.1 it.2 multiple

pub not_true : (b : Bool) → not b ≡ true → b ≡ false
not_true true is = absurd (cc is)
not_true false is = refl

pub keys_fact_was : (names : List (Bor (List ℕ))) (name : List ℕ) (exact : Option Index) (fact : Fact) (k old : Keys) → fact ≡ facts.KeysWithin k → (old ≡ k) × ExceptionIsFree names name k.except → WasFact names name exact fact (facts.KeysWithin old)
keys_fact_was names name exact fact k old is it = subst (λ (q : Keys). WasFact names name exact fact (facts.KeysWithin q)) (sym it.0) (fact_was names name exact fact (facts.KeysWithin k) (facts.KeysWithin k) is (keys_was names name exact k it.1))

pub values_fact_was : (names : List (Bor (List ℕ))) (name : List ℕ) (exact : Option Index) (fact : Fact) (k old : Keys) → fact ≡ facts.ValuesAreKeys k → (old ≡ k) × ExceptionIsFree names name k.except → WasFact names name exact fact (facts.ValuesAreKeys old)
values_fact_was names name exact fact k old is it = subst (λ (q : Keys). WasFact names name exact fact (facts.ValuesAreKeys q)) (sym it.0) (fact_was names name exact fact (facts.ValuesAreKeys k) (facts.ValuesAreKeys k) is (values_was names name exact k it.1))
