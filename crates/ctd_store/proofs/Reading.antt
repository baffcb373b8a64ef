-- Arrays are told apart by what they read as, so a write is known by its look-ups.
use Rattle.std.proofs.Common.{◌≡◌, ◌≢◌, Bool, true, false, cond, ◌&&◌, List, [], ◌∷◌, ◌++◌, T, Option, Some, None, refl, ap, sym, ◌∙◌}
use Rattle.std.specs.declared.cmp.Ordering.{Ordering}
use Rattle.std.specs.FinMap.{find}
use Rattle.std.specs.FinMap.Entries.{is_sorted, is_sorted-put, find-put, same_entries}
use Rattle.std.specs.Option.{option_or}
use Rattle.std.specs.Ordering.{eq_by_cmp}
use Rattle.std.proofs.lemmas.Map.Lookups.{CmpEqualImpliesEq}
use Rattle.std.proofs.lemmas.Map.Views.{tells_apart}
use Rattle.ctd_store.specs.declared.value.Value.{Value}
use Rattle.ctd_store.specs.Order.{values_cmp, same_values}
use Rattle.ctd_store.specs.inner.OrderLaws.{values_total, exact_lists}
use Rattle.ctd_store.specs.inner.Reading.{ReadsAs}
use Rattle.ctd_store.specs.Store.{Array}
use Rattle.ctd_store.specs.calls.Store.{by_indices}

pub left_of : (a b : Bool) → T (a && b) → T a
left_of true b h = tt
left_of false b h = h

pub right_of : (a b : Bool) → T (a && b) → T b
right_of true b h = h
right_of false b h = absurd h

pub both : (a b : Bool) → T a → T b → T (a && b)
both true b p h = h
both false b p h = p

-- what is not one does not tie
pub differs : {K : Type 0} {R : K → K → Ordering} → CmpEqualImpliesEq R → (q k : K) → q ≢ k → eq_by_cmp R q k ≡ false
differs {R = R} exact q k apart = elim (eq_by_cmp R q k) as (λ b. eq_by_cmp R q k ≡ b → b ≡ false) [
  | true ↦ λ tied. absurd (apart (tells_apart exact q k tied))
  | false ↦ λ _. refl
] refl

-- what is found in one array and then another
pub in_both : (q : List Value) (a b : Array) → find values_cmp q (a ++ b) ≡ option_or (find values_cmp q a) (find values_cmp q b)
in_both q [] b = refl
in_both q (e ∷ a) b = elim (same_values q e.0) as (λ t. cond t (Some e.1) (find values_cmp q (a ++ b)) ≡ option_or (cond t (Some e.1) (find values_cmp q a)) (find values_cmp q b)) [
  | true ↦ refl
  | false ↦ in_both q a b
]

pub sorted_by_indices : (es : Array) → T (is_sorted values_cmp (by_indices es))
sorted_by_indices [] = tt
sorted_by_indices (e ∷ es) = is_sorted-put values_cmp values_total e.0 e.1 (by_indices es) (sorted_by_indices es)

-- what is found does not depend on the order
pub found_by_indices : (q : List Value) (es : Array) → find values_cmp q (by_indices es) ≡ find values_cmp q es
found_by_indices q [] = refl
found_by_indices q (e ∷ es) = find-put values_cmp values_total q e.0 e.1 (by_indices es) ∙ ap (cond (same_values q e.0) (Some e.1)) (found_by_indices q es)

-- what reads as one array is one in order
pub same_in_order : (a b : Array) → ReadsAs a b → by_indices a ≡ by_indices b
same_in_order a b h =
    same_entries values_cmp values_total exact_lists _ _ (sorted_by_indices a) (sorted_by_indices b) (λ q. found_by_indices q a ∙ h q ∙ sym (found_by_indices q b))

-- an array before or behind one that is written
pub read_before : (a b c : Array) → ReadsAs a b → ReadsAs (a ++ c) (b ++ c)
read_before a b c h q = in_both q a c ∙ ap (λ o. option_or o (find values_cmp q c)) (h q) ∙ sym (in_both q b c)

pub read_behind : (k : List Value) (v : Value) (a new old : Array) → find values_cmp k a ≡ None → ReadsAs new ((k, v) ∷ old) → ReadsAs (a ++ new) ((k, v) ∷ a ++ old)
read_behind k v a new old none h q =
    in_both q a new
    ∙ ap (option_or (find values_cmp q a)) (h q)
    ∙ elim (same_values q k) as (λ b. same_values q k ≡ b → option_or (find values_cmp q a) (cond b (Some v) (find values_cmp q old)) ≡ cond b (Some v) (find values_cmp q (a ++ old))) [
      | true ↦ λ tied. ap (λ o. option_or o (Some v)) (ap (λ r. find values_cmp r a) (tells_apart exact_lists q k tied) ∙ none)
      | false ↦ λ _. sym (in_both q a old)
    ] refl

-- an entry that hides another
pub read_over : (k : List Value) (v w : Value) (es : Array) → ReadsAs ((k, v) ∷ es) ((k, v) ∷ (k, w) ∷ es)
read_over k v w es q = covered (same_values q k) (find values_cmp q es)
  where
    covered : (b : Bool) (o : Option Value) → cond b (Some v) o ≡ cond b (Some v) (cond b (Some w) o)
    covered true o = refl
    covered false o = refl
