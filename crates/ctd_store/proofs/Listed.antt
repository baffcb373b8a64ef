-- The entries of a map behind those of other places, and what the whole array is.
use Rattle.std.proofs.Common.{◌≡◌, Option, Bool, true, false, cond, ◌||◌, append_assoc, subst, List, [], ◌∷◌, ◌++◌, length, Some, None, refl, ap, sym, ◌∙◌, arith}
use Rattle.std.specs.declared.vec.Vec.{Vec}
use Rattle.std.specs.Cmp.Lexicographic.{lists_ties, pointwise}
use Rattle.std.specs.FinMap.{find, put}
use Rattle.std.specs.List.{AllByRecursion, IsDistinct, list_any}
use Rattle.std.specs.List.Sorted.{IsPermutation}
use Rattle.std.specs.Map.{keys_of, lookup}
use Rattle.std.specs.Option.{option_or}
use Rattle.std.proofs.lemmas.List.{append-nil}
use Rattle.std.proofs.lemmas.List.Folds.{list_any-append}
use Rattle.std.proofs.lemmas.List.Sorted.{list_any-IsPermutation, IsPermutation-append_right}
use Rattle.std.proofs.lemmas.Map.Keys.{IsDistinct-cons, IsDistinct-head, IsDistinct-tail}
use Rattle.std.proofs.lemmas.Map.Views.{tells_apart}
use Rattle.indexmap.specs.IndexMap.{insert_entry}
use Rattle.ctd_store.specs.declared.places.Places.{Places}
use Rattle.ctd_store.specs.declared.value.Value.{Value}
use Rattle.ctd_store.specs.Order.{same_value, same_values, value_cmp, values_cmp}
use Rattle.ctd_store.specs.inner.OrderLaws.{exact_lists}
use Rattle.ctd_store.specs.calls.Places.{listed, place_entries}
use Rattle.ctd_store.specs.inner.Reading.{visible_entries, ReadsAs}
use Rattle.ctd_store.specs.Store.{Array, first_of_each}
use Rattle.ctd_store.specs.calls.Store.{by_indices, index_lists}
use Rattle.ctd_store.proofs.Firsts.{HasEachOnce, all_first, entries_of_both}
use Rattle.ctd_store.proofs.Placed.{found_scalar}
use Rattle.ctd_store.proofs.Reading.{found_by_indices, in_both, read_before, read_behind, read_over, same_in_order}

-- what is found in the first of two, or else in the second
pub found_first : (q : List Value) (v : Value) (a b whole : Array) → by_indices (a ++ b) ≡ whole → find values_cmp q a ≡ Some v → find values_cmp q whole ≡ Some v
found_first q v a b whole view found = ap (find values_cmp q) (sym view) ∙ found_by_indices q (a ++ b) ∙ in_both q a b ∙ ap (λ o. option_or o (find values_cmp q b)) found

pub found_second : (q : List Value) (a b whole : Array) → by_indices (a ++ b) ≡ whole → find values_cmp q a ≡ None → find values_cmp q whole ≡ find values_cmp q b
found_second q a b whole view none = ap (find values_cmp q) (sym view) ∙ found_by_indices q (a ++ b) ∙ in_both q a b ∙ ap (λ o. option_or o (find values_cmp q b)) none

-- where the map has no value without indices
pub scalar_found : (p : Places) (b whole : Array) → by_indices (place_entries p ++ b) ≡ whole → find values_cmp [] b ≡ None → find values_cmp [] whole ≡ p.scalar
scalar_found p b whole view none =
    ap (find values_cmp []) (sym view)
    ∙ found_by_indices [] (place_entries p ++ b)
    ∙ in_both [] (place_entries p) b
    ∙ (λ i. option_or (found_scalar p i) (none i))
    ∙ nothing_more p.scalar
  where
    nothing_more : (s : Option Value) → option_or s None ≡ s
    nothing_more None = refl
    nothing_more (Some x) = refl

-- a value written into the one or the other
pub put_first : (k : List Value) (v : Value) (new old b whole : Array) → by_indices (old ++ b) ≡ whole → ReadsAs new ((k, v) ∷ old) → by_indices (new ++ b) ≡ put values_cmp k v whole
put_first k v new old b whole view written = same_in_order (new ++ b) ((k, v) ∷ old ++ b) (read_before new ((k, v) ∷ old) b written) ∙ ap (put values_cmp k v) view

pub put_second : (k : List Value) (v : Value) (a new old whole : Array) → by_indices (a ++ old) ≡ whole → find values_cmp k a ≡ None → ReadsAs new ((k, v) ∷ old) → by_indices (a ++ new) ≡ put values_cmp k v whole
put_second k v a new old whole view none written = same_in_order (a ++ new) ((k, v) ∷ a ++ old) (read_behind k v a new old none written) ∙ ap (put values_cmp k v) view

-- the entries of the whole are those of the first and those of the second that these do not hide
pub any_in_both : (F : List Value × Value → Bool) (a b whole : Array) → by_indices (a ++ b) ≡ whole → HasEachOnce a → list_any F whole ≡ (list_any F a || list_any F (visible_entries a (first_of_each b)))
any_in_both F a b whole view once =
    ap (list_any F) (sym view) ∙ list_any-IsPermutation F _ _ (entries_of_both a b once) ∙ list_any-append F a (visible_entries a (first_of_each b))

pub entries_added : (before mid new a b whole : Array) → by_indices (a ++ b) ≡ whole → HasEachOnce a → mid ≡ before ++ a → new ≡ mid ++ visible_entries a (first_of_each b) → IsPermutation (before ++ whole) new
entries_added before mid new a b whole view once first rest =
    subst (λ (p : Array × Array). IsPermutation p.0 p.1) (λ i. (before ++ view i, sym (rest ∙ ap (λ es. es ++ visible_entries a (first_of_each b)) first ∙ append_assoc before a (visible_entries a (first_of_each b))) i))
    (IsPermutation-append_right before _ _ (entries_of_both a b once))

module _ {A : Type 0} where
  -- the equality by which a map finds a list
  abbrev pub same_lists : Vec Value A → Vec Value A → Bool
  same_lists a b = pointwise same_value a.items b.items

  ties : (q : List Value) (k : Vec Value A) → pointwise same_value q k.items ≡ same_values q k.items
  ties q k = lists_ties value_cmp (λ x y. refl) q k.items

  -- what a map has at an index list
  pub looked_up : (q : List Value) (es : List (Vec Value A × Value)) → lookup (λ k. pointwise same_value q k.items) es ≡ find values_cmp q (listed es)
  looked_up q [] = refl
  looked_up q (e ∷ es) = λ i. cond (ties q e.0 i) (Some e.1) (looked_up q es i)

  -- where it has no entries, there are only those of the other array
  pub alone : (a row whole : Array) (es : List (Vec Value A × Value)) → by_indices (a ++ listed es) ≡ whole → length es ≡ 0 → a ≡ row → by_indices row ≡ row → whole ≡ row
  alone a row whole [] view none is sorted = sym view ∙ ap by_indices (append-nil a ∙ is) ∙ sorted
  alone a row whole (e ∷ es) view none is sorted = absurd (omega (arith, none))

  -- and after an insertion
  pub inserted : (es : List (Vec Value A × Value)) (k : Vec Value A) (v : Value) → ReadsAs (listed (insert_entry same_lists es k v)) ((k.items, v) ∷ listed es)
  inserted [] k v q = refl
  inserted (e ∷ es) k v q =
      elim (same_lists k e.0) as (λ b. same_lists k e.0 ≡ b → find values_cmp q (listed (cond b ((e.0, v) ∷ es) (e ∷ insert_entry same_lists es k v))) ≡ find values_cmp q ((k.items, v) ∷ (e.0.items, e.1) ∷ listed es)) [
        | true ↦ λ is.
            read_over e.0.items v e.1 (listed es) q
            ∙ ap (λ r. find values_cmp q ((r, v) ∷ (e.0.items, e.1) ∷ listed es)) (sym (tells_apart exact_lists k.items e.0.items (sym (ties k.items e.0) ∙ is)))
        | false ↦ λ is.
            read_behind k.items v ((e.0.items, e.1) ∷ []) (listed (insert_entry same_lists es k v)) (listed es) (ap (λ t. cond t (Some e.1) None) (sym (ties k.items e.0) ∙ is)) (inserted es k v) q
      ] refl

  lists_apart : (k : Vec Value A) (es : List (Vec Value A × Value)) → AllByRecursion (λ x. same_lists k x ≡ false) (keys_of es) → AllByRecursion (λ y. same_values k.items y ≡ false) (index_lists (listed es))
  lists_apart k [] h = tt
  lists_apart k (e ∷ es) h = (sym (ties k.items e.0) ∙ h.0, lists_apart k es h.1)

  once_listed : (es : List (Vec Value A × Value)) → IsDistinct same_lists (keys_of es) → HasEachOnce (listed es)
  unfolding IsDistinct
  once_listed [] h = tt
  once_listed (e ∷ es) h =
      IsDistinct-cons same_values e.0.items (index_lists (listed es)) (lists_apart e.0 es (IsDistinct-head same_lists e.0 (keys_of es) h)) (once_listed es (IsDistinct-tail same_lists e.0 (keys_of es) h))

  -- a map has no index list twice
  pub first_listed : (es : List (Vec Value A × Value)) → IsDistinct same_lists (keys_of es) → first_of_each (listed es) ≡ listed es
  first_listed es h = all_first (listed es) (once_listed es h)
