-- Names with their abstract values.
use Rattle.ctd_states.proofs.Common.{AbstractValue, Bor, IsImpossible, List, NameIsWithin, NamePays, NameStands, NamedValue, None, PaysStep, StateIsWithin, Tells, [], ap, arith, drop, false, get_or}
use Rattle.ctd_states.proofs.Common.{length, map, name_at, named_values, refl, set, subst, suc, sym, with_value, zero, ℕ, ◌++◌, ◌+◌, ◌<◌, ◌∙◌, ◌∷◌, ◌≡◌, ◌≤◌}
use Rattle.ctd_states.proofs.Standing.{Leads, all_follow, each_at, impossible, leads_on, one_paid}

-- a name with its abstract value
abbrev pub entry : List ℕ → AbstractValue → NamedValue
entry name value = record { name = name; value = value }

-- the name at an index
pub name_is : (names : List (Bor (List ℕ))) (i : ℕ) (q : Bor (List ℕ)) → i < length names → q ≡ get_or names i q → q.now ≡ name_at names i
name_is [] i q inside is = absurd (omega (arith, inside))
name_is (x ∷ xs) zero q inside is = ap (λ (y : Bor (List ℕ)). y.now) is
name_is (x ∷ xs) (suc i) q inside is = name_is xs i q (omega (arith, inside)) is

pub no_name_is : (names : List (Bor (List ℕ))) (i : ℕ) → length names ≤ i → [] ≡ name_at names i
no_name_is [] i beyond = refl
no_name_is (x ∷ xs) zero beyond = absurd (omega (arith, beyond))
no_name_is (x ∷ xs) (suc i) beyond = no_name_is xs i (omega (arith, beyond))

pub values_length : (names : List (Bor (List ℕ))) (xs : List AbstractValue) → length (named_values names xs) ≡ length xs
values_length names [] = refl
values_length [] (x ∷ xs) = ap suc (values_length [] xs)
values_length (q ∷ qs) (x ∷ xs) = ap suc (values_length qs xs)

pub values_at : (names : List (Bor (List ℕ))) (xs : List AbstractValue) (i : ℕ) (d : NamedValue) (e : AbstractValue) → i < length xs → get_or (named_values names xs) i d ≡ entry (name_at names i) (get_or xs i e)
values_at names [] i d e inside = absurd (omega (arith, inside))
values_at [] (x ∷ xs) zero d e inside = refl
values_at [] (x ∷ xs) (suc i) d e inside = values_at [] xs i d e (omega (arith, inside))
values_at (q ∷ qs) (x ∷ xs) zero d e inside = refl
values_at (q ∷ qs) (x ∷ xs) (suc i) d e inside = values_at qs xs i d e (omega (arith, inside))

pub values_nothing : (names : List (Bor (List ℕ))) → named_values names [] ≡ []
values_nothing names = refl

pub values_push : (names : List (Bor (List ℕ))) (xs : List AbstractValue) (x : AbstractValue) → named_values names (xs ++ x ∷ []) ≡ named_values names xs ++ entry (name_at names (length xs)) x ∷ []
values_push [] [] x = refl
values_push (q ∷ qs) [] x = refl
values_push [] (y ∷ xs) x = ap (λ l. entry [] y ∷ l) (values_push [] xs x)
values_push (q ∷ qs) (y ∷ xs) x = ap (λ l. entry q.now y ∷ l) (values_push qs xs x)

values_inside : (names : List (Bor (List ℕ))) (xs : List AbstractValue) (i : ℕ) → i < length xs → i < length (named_values names xs)
values_inside names xs i inside = subst (λ m. i < m) (sym (values_length names xs)) inside

-- the abstract value of a name by its index
pub entry_value : (names : List (Bor (List ℕ))) (xs : List AbstractValue) (i : ℕ) (e : AbstractValue) (name : List ℕ) → i < length xs → name_at names i ≡ name → Tells (named_values names xs) name (get_or xs i e)
entry_value names xs i e name inside named n h each =
    let d = entry name e in
    let at : NameStands (get_or (named_values names xs) i d).name (get_or (named_values names xs) i d).value n h = each_at (named_values names xs) i d n h (values_inside names xs i inside) each in
    subst (λ m. NameStands m (get_or xs i e) n h) named (subst (λ (x : NamedValue). NameStands x.name x.value n h) (values_at names xs i d e inside) at)

-- nothing is possible
pub impossible_value : (names : List (Bor (List ℕ))) (xs : List AbstractValue) (i : ℕ) (e : AbstractValue) → i < length xs → ((get_or xs i e).may_lack ≡ false) × ((get_or xs i e).alone.text ≡ None) × ((get_or xs i e).alone.number ≡ None) → IsImpossible (named_values names xs)
impossible_value names xs i e inside none =
    let d = entry [] e in
    impossible (named_values names xs) i d (values_inside names xs i inside)
    (subst (λ (x : NamedValue). (x.value.may_lack ≡ false) × (x.value.alone.text ≡ None) × (x.value.alone.number ≡ None)) (sym (values_at names xs i d e inside)) none)

-- entries that are within others, one more
pub values_leads_on : (names : List (Bor (List ℕ))) (entries others : List AbstractValue) (i : ℕ) (value f : AbstractValue) → i < length entries → value ≡ get_or entries i value → i < length others → NameIsWithin value (get_or others i f)
    → Leads (named_values names entries) (drop i (named_values names others)) (named_values names others) → Leads (named_values names entries) (drop (i + 1) (named_values names others)) (named_values names others)
values_leads_on names entries others i value f inside is inside_others within leads =
    let d = entry (name_at names i) f in
    let at : get_or (named_values names others) i d ≡ entry (name_at names i) (get_or others i f) = values_at names others i d f inside_others in
    let tells : Tells (named_values names entries) (name_at names i) value = subst (λ g. Tells (named_values names entries) (name_at names i) g) (sym is) (entry_value names entries i value (name_at names i) inside refl) in
    leads_on (named_values names entries) (named_values names others) i d value (values_inside names others i inside_others)
    (subst (λ (x : NamedValue). Tells (named_values names entries) x.name value) (sym at) tells)
    (subst (λ (x : NamedValue). NameIsWithin value x.value) (sym at) within) leads

pub values_all_follow : (names : List (Bor (List ℕ))) (entries others : List AbstractValue) (i : ℕ) → length others ≤ i → Leads (named_values names entries) (drop i (named_values names others)) (named_values names others) → StateIsWithin (named_values names entries) (named_values names others)
values_all_follow names entries others i all leads = all_follow (named_values names entries) (named_values names others) i (subst (λ m. m ≤ i) (sym (values_length names others)) all) leads

-- a step is paid
pub values_paid : (names : List (Bor (List ℕ))) (entries after : List AbstractValue) (i : ℕ) (e x : AbstractValue) → length after ≡ i → i < length entries → PaysStep (named_values names entries) (named_values names after) → NamePays (get_or entries i e) x → PaysStep (named_values names entries) (named_values names (after ++ x ∷ []))
values_paid names entries after i e x many inside pays one =
    let d = entry (name_at names i) e in
    let at : get_or (named_values names entries) i d ≡ entry (name_at names i) (get_or entries i e) = values_at names entries i d e inside in
    subst (λ l. PaysStep (named_values names entries) l) (sym (values_push names after x ∙ ap (λ n. named_values names after ++ entry (name_at names n) x ∷ []) many))
    (one_paid (named_values names entries) (named_values names after) i d (entry (name_at names i) x) (values_inside names entries i inside) pays (sym (ap (λ (y : NamedValue). y.name) at))
    (subst (λ (y : NamedValue). NamePays y.value x) (sym at) one))

-- one entry is written
pub values_set : (names : List (Bor (List ℕ))) (xs : List AbstractValue) (i : ℕ) (x : AbstractValue) → named_values names (set xs i x) ≡ set (named_values names xs) i (entry (name_at names i) x)
values_set names [] i x = refl
values_set [] (y ∷ ys) zero x = refl
values_set [] (y ∷ ys) (suc i) x = ap (λ l. entry [] y ∷ l) (values_set [] ys i x)
values_set (q ∷ qs) (y ∷ ys) zero x = refl
values_set (q ∷ qs) (y ∷ ys) (suc i) x = ap (λ l. entry q.now y ∷ l) (values_set qs ys i x)

-- the first entries changed, the others as they were
abbrev pub front : (NamedValue → NamedValue) → ℕ → List NamedValue → List NamedValue
front f zero xs = xs
front f (suc i) [] = []
front f (suc i) (x ∷ xs) = f x ∷ front f i xs

front_more : (f : NamedValue → NamedValue) (i : ℕ) (xs : List NamedValue) (d : NamedValue) → set (front f i xs) i (f (get_or (front f i xs) i d)) ≡ front f (suc i) xs
front_more f zero [] d = refl
front_more f zero (x ∷ xs) d = refl
front_more f (suc i) [] d = refl
front_more f (suc i) (x ∷ xs) d = ap (λ l. f x ∷ l) (front_more f i xs d)

front_all : (f : NamedValue → NamedValue) (i : ℕ) (xs : List NamedValue) → length xs ≤ i → front f i xs ≡ map f xs
front_all f zero [] all = refl
front_all f zero (x ∷ xs) all = absurd (omega (arith, all))
front_all f (suc i) [] all = refl
front_all f (suc i) (x ∷ xs) all = ap (λ l. f x ∷ l) (front_all f i xs (omega (arith, all)))

-- abstract values that are replaced
pub values_replaced : (names : List (Bor (List ℕ))) (old entries : List AbstractValue) (name own : List ℕ) (value e x : AbstractValue) (i : ℕ) → i < length entries → own ≡ name_at names i → entry own x ≡ with_value name value (entry own (get_or entries i e))
    → named_values names entries ≡ front (with_value name value) i (named_values names old) → named_values names (set entries i x) ≡ front (with_value name value) (i + 1) (named_values names old)
values_replaced names old entries name own value e x i inside is new before =
    let f = with_value name value in
    let all = named_values names entries in
    let d = entry own e in
    let next : suc i ≡ i + 1 = omega arith in
    let at : get_or all i d ≡ entry own (get_or entries i e) = values_at names entries i d e inside ∙ ap (λ m. entry m (get_or entries i e)) (sym is) in
    values_set names entries i x ∙ ap (λ m. set all i (entry m x)) (sym is) ∙ ap (λ y. set all i y) new ∙ ap (λ y. set all i (f y)) (sym at)
    ∙ ap (λ l. set l i (f (get_or l i d))) before ∙ front_more f i (named_values names old) d ∙ ap (λ n. front f n (named_values names old)) next

pub values_all_replaced : (names : List (Bor (List ℕ))) (old entries : List AbstractValue) (name : List ℕ) (value : AbstractValue) (i : ℕ) → length old ≤ i → named_values names entries ≡ front (with_value name value) i (named_values names old) → named_values names entries ≡ map (with_value name value) (named_values names old)
values_all_replaced names old entries name value i all before =
    before ∙ front_all (with_value name value) i (named_values names old) (subst (λ m. m ≤ i) (sym (values_length names old)) all)
