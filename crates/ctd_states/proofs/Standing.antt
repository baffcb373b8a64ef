-- What states say of variables, and when one is within another.
use Rattle.ctd_states.proofs.Common.{AbstractValue, AreWithin, Bindings, EachStands, IsImpossible, IsIn, Lengths, List, MayBe, MayHave, NameIsWithin, NamePays, NameStands, NamedValue, None, Option}
use Rattle.ctd_states.proofs.Common.{PaysStep, PossibleValues, Range, Some, StateIsWithin, Tells, Value, ValuesPay, [], arith, at_drop_more, at_key, bytes_eq, bytes_eq-Decides, drop, drop_all, false}
use Rattle.ctd_states.proofs.Common.{get_or, if◌then◌else◌, le_trans, length, map, refl, subst, suc, sym, true, value_at, with_value, zero, ℕ, ℤ, ◌++◌, ◌+◌, ◌<◌, ◌^◌, ◌∙◌, ◌∷◌, ◌≡◌, ◌≢◌, ◌≤◌}
use Rattle.ctd_store.specs.declared.value.Value.TheVariants as values

-- no more steps are left than a run may have
pub each_few : (xs : List NamedValue) (n : ℕ) (h : Bindings) → EachStands xs n h → n < 2 ^ 64
each_few [] n h each = each
each_few (x ∷ xs) n h each = each_few xs n h each.1

-- an entry of a state
pub each_at : (xs : List NamedValue) (i : ℕ) (d : NamedValue) (n : ℕ) (h : Bindings) → i < length xs → EachStands xs n h → NameStands (get_or xs i d).name (get_or xs i d).value n h
each_at [] i d n h inside each = absurd (omega (arith, inside))
each_at (y ∷ xs) zero d n h inside each = each.0
each_at (y ∷ xs) (suc i) d n h inside each = each_at xs i d n h (omega (arith, inside)) each.1

-- possible values within others
pub values_within : (a b : PossibleValues) → ((l : Lengths) → a.text ≡ Some l → (m : Lengths) × (b.text ≡ Some m) × (m.least ≤ l.least) × (l.most ≤ m.most))
    → ((r : Range) → a.number ≡ Some r → (s : Range) × (b.number ≡ Some s) × ((n : ℕ) (x : ℤ) → n < 2 ^ 64 → IsIn r n x → IsIn s n x)) → AreWithin a b
values_within a b lengths numbers n (values.Int x) few may = let s = numbers may.0 may.1 in (s.0, s.1, s.2 n x few may.2)
values_within a b lengths numbers n (values.Text bytes) few may = let m = lengths may.0 may.1 in (m.0, m.1, le_trans m.2 may.2, le_trans may.3 m.3)

have_within : (a b : AbstractValue) → (a.may_lack ≡ true → b.may_lack ≡ true) → AreWithin a.alone b.alone → (n : ℕ) (v : Option Value) → n < 2 ^ 64 → MayHave a n v → MayHave b n v
have_within a b lacks alone n None few may = lacks may
have_within a b lacks alone n (Some v) few may = alone n v few may

pub name_within : (a b : AbstractValue) → (a.may_lack ≡ true → b.may_lack ≡ true) → AreWithin a.alone b.alone → AreWithin a.elements b.elements → NameIsWithin a b
name_within a b lacks alone elements = record { alone = have_within a b lacks alone; elements = elements }

pub within_stands : (name : List ℕ) (a b : AbstractValue) (n : ℕ) (h : Bindings) → n < 2 ^ 64 → NameIsWithin a b → NameStands name a n h → NameStands name b n h
within_stands name a b n h few within stands = record {
  alone = within.alone n (value_at h (at_key name [])) few stands.alone;
  elements = λ i is v has. within.elements n v few (stands.elements i is v has);
}

-- nothing is possible
pub no_possible_value : (k : PossibleValues) (n : ℕ) (v : Value) → k.text ≡ None → k.number ≡ None → MayBe k n v → ⊥
no_possible_value k n (values.Int x) text number may = absurd (cc (number, may.1))
no_possible_value k n (values.Text bytes) text number may = absurd (cc (text, may.1))

no_name : (f : AbstractValue) (n : ℕ) (v : Option Value) → f.may_lack ≡ false → f.alone.text ≡ None → f.alone.number ≡ None → MayHave f n v → ⊥
no_name f n None sure text number may = absurd (cc (sure, may))
no_name f n (Some v) sure text number may = no_possible_value f.alone n v text number may

pub impossible : (xs : List NamedValue) (i : ℕ) (d : NamedValue) → i < length xs → ((get_or xs i d).value.may_lack ≡ false) × ((get_or xs i d).value.alone.text ≡ None) × ((get_or xs i d).value.alone.number ≡ None) → IsImpossible xs
impossible xs i d inside none n h each = no_name (get_or xs i d).value n (value_at h (at_key (get_or xs i d).name [])) none.0 none.1 none.2 (each_at xs i d n h inside each).alone

-- entries that are within others, one after the other: if the rest is, all are
abbrev pub Leads : List NamedValue → List NamedValue → List NamedValue → Type 0
Leads entries rest others = (n : ℕ) (h : Bindings) → EachStands entries n h → EachStands rest n h → EachStands others n h

-- the same of two states of the variables that have the same values of a name
have_same : (f : AbstractValue) (n : ℕ) (v w : Option Value) → w ≡ v → MayHave f n v → MayHave f n w
have_same f n v w same may = subst (λ x. MayHave f n x) (sym same) may

pub name_same : (name : List ℕ) (f : AbstractValue) (n : ℕ) (h g : Bindings) → ((is : List Value) → value_at g (at_key name is) ≡ value_at h (at_key name is)) → NameStands name f n h → NameStands name f n g
name_same name f n h g same stands = record {
  alone = have_same f n _ _ (same []) stands.alone;
  elements = λ i is v has. stands.elements i is v (sym (same (i ∷ is)) ∙ has);
}

pub each_same : (xs : List NamedValue) (n : ℕ) (h g : Bindings) → ((name : List ℕ) (is : List Value) → value_at g (at_key name is) ≡ value_at h (at_key name is)) → EachStands xs n h → EachStands xs n g
each_same [] n h g same each = each
each_same (x ∷ xs) n h g same each = (name_same x.name x.value n h g (same x.name) each.0, each_same xs n h g same each.1)

-- another abstract value of one name
apart_by : (a b : List ℕ) → bytes_eq a b ≡ false → a ≢ b
apart_by a b is same = let yes : bytes_eq a b ≡ true = (bytes_eq-Decides a b).1 same in absurd (cc (yes, is))

changed_at : (name : List ℕ) (value : AbstractValue) (x : NamedValue) (n : ℕ) (h g : Bindings) → NameStands name value n g → ((other : List ℕ) (is : List Value) → other ≢ name → value_at g (at_key other is) ≡ value_at h (at_key other is)) → NameStands x.name x.value n h
    → NameStands (with_value name value x).name (with_value name value x).value n g
changed_at name value x n h g here others stands = elim (bytes_eq x.name name) as (λ b. bytes_eq x.name name ≡ b → NameStands (if b then record { name = x.name; value = value } else x).name (if b then record { name = x.name; value = value } else x).value n g) [
  | true ↦ λ is. subst (λ m. NameStands m value n g) (sym ((bytes_eq-Decides x.name name).0 is)) here
  | false ↦ λ is. name_same x.name x.value n h g (λ is'. others x.name is' (apart_by x.name name is)) stands
] refl

pub each_changed : (name : List ℕ) (value : AbstractValue) (xs : List NamedValue) (n : ℕ) (h g : Bindings) → NameStands name value n g → ((other : List ℕ) (is : List Value) → other ≢ name → value_at g (at_key other is) ≡ value_at h (at_key other is)) → EachStands xs n h
    → EachStands (map (with_value name value) xs) n g
each_changed name value [] n h g here others each = each
each_changed name value (x ∷ xs) n h g here others each = (changed_at name value x n h g here others each.0, each_changed name value xs n h g here others each.1)

-- one more entry
pub each_push : (xs : List NamedValue) (x : NamedValue) (n : ℕ) (h : Bindings) → EachStands xs n h → NameStands x.name x.value n h → EachStands (xs ++ x ∷ []) n h
each_push [] x n h each one = (one, each)
each_push (y ∷ xs) x n h each one = (each.0, each_push xs x n h each.1 one)

-- a step is paid
have_paid : (a b : AbstractValue) (n : ℕ) (v : Option Value) → b.may_lack ≡ a.may_lack → ValuesPay a.alone b.alone → MayHave a (suc n) v → MayHave b n v
have_paid a b n None lacks alone may = lacks ∙ may
have_paid a b n (Some v) lacks alone may = alone n v may

pub name_pays : (a b : AbstractValue) → b.may_lack ≡ a.may_lack → ValuesPay a.alone b.alone → ValuesPay a.elements b.elements → NamePays a b
name_pays a b lacks alone elements name n h stands = record {
  alone = have_paid a b n (value_at h (at_key name [])) lacks alone stands.alone;
  elements = λ i is v has. elements n v (stands.elements i is v has);
}

pub nothing_paid : (entries : List NamedValue) → PaysStep entries []
nothing_paid entries n h each = let few = each_few entries (suc n) h each in omega (arith, few)

pub one_paid : (entries after : List NamedValue) (i : ℕ) (d x : NamedValue) → i < length entries → PaysStep entries after → x.name ≡ (get_or entries i d).name → NamePays (get_or entries i d).value x.value → PaysStep entries (after ++ x ∷ [])
one_paid entries after i d x inside pays same name n h each =
    each_push after x n h (pays n h each) (subst (λ m. NameStands m x.value n h) (sym same) (name (get_or entries i d).name n h (each_at entries i d (suc n) h inside each)))

-- entries that are within others, one more
pub leads_on : (entries others : List NamedValue) (i : ℕ) (d : NamedValue) (value : AbstractValue) → i < length others → Tells entries (get_or others i d).name value → NameIsWithin value (get_or others i d).value → Leads entries (drop i others) others → Leads entries (drop (i + 1) others) others
leads_on entries others i d value inside tells within leads n h each rest =
    let x : NamedValue = get_or others i d in
    let one : NameStands x.name x.value n h = within_stands x.name value x.value n h (each_few entries n h each) within (tells n h each) in
    leads n h each (subst (λ l. EachStands l n h) (sym (at_drop_more (λ l. l) others i d inside)) (one, rest))

pub all_follow : (entries others : List NamedValue) (i : ℕ) → length others ≤ i → Leads entries (drop i others) others → StateIsWithin entries others
all_follow entries others i all leads n h each = leads n h each (subst (λ l. EachStands l n h) (sym (drop_all i others all)) (each_few entries n h each))
