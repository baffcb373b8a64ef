-- What is pinned of a name and what is assigned to it, at other index lists.
use Rattle.std.proofs.Common.{◌≡◌, Bool, true, false, cond, not, ◌&&◌, T, List, [], ◌∷◌, ◌++◌, IsTrue, Option, Some, None, is_some, Result, Ok, Err, OnOk, OnErr, refl, ap, sym, subst, ◌∙◌}
use Rattle.std.specs.List.{list_all}
use Rattle.std.specs.FinMap.{find, put, is_sorted}
use Rattle.std.specs.Option.{option_or}
use Rattle.std.proofs.lemmas.Map.Views.{tells_apart}
use Rattle.std.specs.FinMap.Entries.{by_order, is_sorted-put}
use Rattle.std.specs.declared.cmp.Ordering.TheVariants.{Less, Equal, Greater}
use Rattle.ctd_store.specs.declared.value.Value.{Value}
use Rattle.ctd_store.specs.Order.{values_cmp, same_values}
use Rattle.ctd_store.specs.inner.OrderLaws.{values_total, exact_lists}
use Rattle.ctd_store.specs.Store.{Array, Bindings, array_of, values_of, has_indices, first_of_each}
use Rattle.ctd_store.specs.inner.Store.{are_apart}
use Rattle.ctd_store.specs.inner.Reading.{visible_entries}
use Rattle.ctd_store.proofs.Firsts.{one_hides, sorted_each_once}
use Rattle.ctd_store.proofs.Reading.{left_of, right_of, both}

is_true : (b : Bool) → T b → b ≡ true
is_true true h = refl
is_true false h = absurd h

holds : (b : Bool) → b ≡ true → T b
holds b h = subst T (sym h) tt

-- what is pinned is in order
pins_sorted : (p vs : Array) → T (are_apart p vs) → T (is_sorted values_cmp p)
pins_sorted p vs h = left_of _ _ (left_of (is_sorted values_cmp p && is_sorted values_cmp vs) (list_all (λ e. not (has_indices p e.0)) vs) h)

-- what is assigned is in order
values_sorted : (p vs : Array) → T (are_apart p vs) → T (is_sorted values_cmp vs)
values_sorted p vs h = right_of (is_sorted values_cmp p) _ (left_of (is_sorted values_cmp p && is_sorted values_cmp vs) (list_all (λ e. not (has_indices p e.0)) vs) h)

-- none of the one is in the other
none_pinned : (p vs : Array) → T (are_apart p vs) → T (list_all (λ e. not (has_indices p e.0)) vs)
none_pinned p vs h = right_of (is_sorted values_cmp p && is_sorted values_cmp vs) (list_all (λ e. not (has_indices p e.0)) vs) h

no_value : {X : Type 0} (o : Option X) → is_some o ≡ false → o ≡ None
no_value None e = refl
no_value (Some x) e = cc

not_true : (b : Bool) → T (not b) → b ≡ false
not_true true h = absurd h
not_true false h = refl

-- what has a value in the other is not in the one
free_beside : (p vs : Array) (k : List Value) → T (list_all (λ e. not (has_indices p e.0)) vs) → has_indices vs k ≡ true → has_indices p k ≡ false
free_beside p [] k h = λ there. cc
free_beside p (e ∷ vs) k h = elim (same_values k e.0) as (λ b. same_values k e.0 ≡ b → is_some (cond b (Some e.1) (find values_cmp k vs)) ≡ true → has_indices p k ≡ false) [
  | true ↦ λ same _. ap (has_indices p) (tells_apart exact_lists k e.0 same) ∙ not_true _ (left_of _ _ h)
  | false ↦ λ _ there. free_beside p vs k (right_of _ _ h) there
] refl

-- an index list with a value that is assigned is not pinned
pub unpinned : (p vs : Array) (k : List Value) → IsTrue (are_apart p vs) → has_indices vs k ≡ true → has_indices p k ≡ false
unpinned p vs k h there = free_beside p vs k (none_pinned p vs (holds _ h)) there

-- and its value is the assigned one
pub assigned_value : (p vs : Array) (k : List Value) (v : Value) → IsTrue (are_apart p vs) → find values_cmp k vs ≡ Some v → option_or (find values_cmp k p) (find values_cmp k vs) ≡ Some v
assigned_value p vs k v h found = ap (λ o. option_or o (find values_cmp k vs)) (no_value (find values_cmp k p) (unpinned p vs k h (ap is_some found))) ∙ found

-- all index lists still pass a test where one that passes it gets a value
all_put : (F : List Value → Bool) (k : List Value) (v : Value) (es : Array) → T (F k) → T (list_all (λ e. F e.0) es) → T (list_all (λ e. F e.0) (put values_cmp k v es))
all_put F k v [] here h = both (F k) true here tt
all_put F k v (e ∷ es) here h = elim (values_cmp k e.0) as (λ o. T (list_all (λ e. F e.0) (by_order o ((k, v) ∷ e ∷ es) ((e.0, v) ∷ es) (e ∷ put values_cmp k v es)))) [
  | Less ↦ both _ _ here h
  | Equal ↦ h
  | Greater ↦ both _ _ (left_of _ _ h) (all_put F k v es here (right_of _ _ h))
]

-- a value is assigned at an index list that is not pinned
apart_put : (p vs : Array) (k : List Value) (v : Value) → has_indices p k ≡ false → T (are_apart p vs) → T (are_apart p (put values_cmp k v vs))
apart_put p vs k v free h =
    both _ _ (both _ _ (pins_sorted p vs h) (is_sorted-put values_cmp values_total k v vs (values_sorted p vs h)))
    (all_put (λ q. not (has_indices p q)) k v vs (subst (λ b. T (not b)) (sym free) tt) (none_pinned p vs h))

-- whether that was written or refused
pub apart_after : {A E : Type 0} (r : Result A E) (p old new : Array) (k : List Value) (v : Value) → has_indices p k ≡ false → IsTrue (are_apart p old) → OnOk r (new ≡ put values_cmp k v old) → OnErr r (new ≡ old)
    → IsTrue (are_apart p new)
apart_after (Ok x) p old new k v free h written refused = subst (λ es. IsTrue (are_apart p es)) (sym written) (is_true _ (apart_put p old k v free (holds _ h)))
apart_after (Err e) p old new k v free h written refused = subst (λ es. IsTrue (are_apart p es)) (sym refused) h

-- whether a value took the place of another or not
pub apart_with : (b : Bool) (p old new : Array) (k : List Value) (v : Value) → IsTrue (are_apart p old) → (b ≡ true → new ≡ put values_cmp k v old) → (b ≡ true → has_indices old k ≡ true) → (b ≡ false → new ≡ old)
    → IsTrue (are_apart p new)
apart_with true p old new k v h written there stays = subst (λ es. IsTrue (are_apart p es)) (sym (written refl)) (is_true _ (apart_put p old k v (unpinned p old k h (there refl)) (holds _ h)))
apart_with false p old new k v h written there stays = subst (λ es. IsTrue (are_apart p es)) (sym (stays refl)) h

-- where nothing is assigned
none_apart : (p vs : Array) → vs ≡ [] → T (is_sorted values_cmp p) → IsTrue (are_apart p vs)
none_apart p vs none h = subst (λ es. IsTrue (are_apart p es)) (sym none) (is_true _ (both _ _ (both _ _ h tt) tt))

-- a value is pinned or refused, where none is assigned
pub pinned_after : {A E : Type 0} (r : Result A E) (old new vs : Array) (k : List Value) (v : Value) → IsTrue (are_apart old vs) → vs ≡ [] → OnOk r (new ≡ put values_cmp k v old) → OnErr r (new ≡ old) → IsTrue (are_apart new vs)
pinned_after (Ok x) old new vs k v h none written refused =
    none_apart new vs none (subst (λ es. T (is_sorted values_cmp es)) (sym written) (is_sorted-put values_cmp values_total k v old (pins_sorted old vs (holds _ h))))
pinned_after (Err e) old new vs k v h none written refused = subst (λ es. IsTrue (are_apart es vs)) (sym refused) h

-- where none is in both, none is left out
all_visible : (p es : Array) → T (list_all (λ e. not (has_indices p e.0)) es) → visible_entries p es ≡ es
all_visible p [] h = refl
all_visible p (e ∷ es) h =
    ap (λ b. cond b (e ∷ visible_entries p es) (visible_entries p es)) (is_true _ (left_of _ _ h))
    ∙ ap (λ r. e ∷ r) (all_visible p es (right_of _ _ h))

-- and each is the first of its index list
all_first_apart : (p vs : Array) → T (are_apart p vs) → first_of_each (p ++ vs) ≡ p ++ vs
all_first_apart p vs h =
    sym (one_hides p vs (sorted_each_once p (pins_sorted p vs h)) (sorted_each_once vs (values_sorted p vs h))) ∙ ap (λ r. p ++ r) (all_visible p vs (none_pinned p vs h))

-- the values of a name are what is pinned and then what is assigned
pub values_apart : (h : Bindings) (name : List _) (p vs pins values : Array) → p ≡ pins → vs ≡ values → p ≡ array_of name h.pins → vs ≡ array_of name h.assigned → IsTrue (are_apart pins values) → values_of h name ≡ p ++ vs
values_apart h name p vs pins values same same_too pinned assigned apart =
    (λ i. first_of_each (sym pinned i ++ sym assigned i))
    ∙ all_first_apart p vs (holds _ (subst (λ (q : Array × Array). IsTrue (are_apart q.0 q.1)) (λ i. (sym same i, sym same_too i)) apart))
