-- Names with their arrays in any order: what a look-up, a write and a removal are in the order of the names.
use Rattle.std.proofs.Common.{◌≡◌, ◌≢◌, ℕ, zero, suc, ◌+◌, Bool, true, false, cond, not, filter, ◌&&◌, T, List, [], ◌∷◌, ◌++◌, length, Option, Some, None, refl, ap, sym, subst, ◌∙◌, arith}
use Rattle.std.specs.Prelude.{nat_eq, slice_get, slice_set, option_map}
use Rattle.std.specs.declared.cmp.Ordering.TheVariants.{Less, Equal, Greater}
use Rattle.std.specs.Cmp.{tied_itself, eq_by_cmp_equiv}
use Rattle.std.specs.Cmp.Lexicographic.{nat_list_cmp_total}
use Rattle.std.specs.FinMap.{find, put, is_sorted}
use Rattle.std.specs.FinMap.Entries.{by_order, is_sorted-put, is_sorted-where_key, find-put, find-where_key, same_entries}
use Rattle.std.specs.Option.{unwrap_or}
use Rattle.std.specs.Ordering.{is_eq}
use Rattle.std.proofs.Math.Dec.{eqb_refl}
use Rattle.std.proofs.lemmas.Bool.{eqb-true}
use Rattle.std.proofs.lemmas.Map.Lookups.{exact_bytes}
use Rattle.std.proofs.lemmas.Map.Views.{tells_apart}
use Rattle.ctd_store.specs.declared.value.Value.{Value}
use Rattle.ctd_store.specs.Order.{bytes_cmp, same_bytes, values_cmp}
use Rattle.ctd_store.specs.Store.{Array, Variables, array_of}
use Rattle.ctd_store.specs.calls.Store.{Positions, with_array, in_order, is_position, have_positions}
use Rattle.ctd_store.specs.inner.Store.{name_at}
use Rattle.ctd_store.proofs.Reading.{left_of, right_of, both, differs}

pub itself : (k : List ℕ) → same_bytes k k ≡ true
itself k = ap is_eq (tied_itself nat_list_cmp_total k)

pub same_some : {X : Type 0} (x y : X) → Some x ≡ Some y → x ≡ y
same_some x y e = ap (λ o. unwrap_or o x) e

pub nothing : {X : Type 0} (x : X) → None ≡ Some x → ⊥
nothing x e = cc

-- what an array is to those who look its name up
abbrev given : Array → Option Array
given [] = None
given (e ∷ es) = Some (e ∷ es)

array_given : (a : Array) → unwrap_or (given a) [] ≡ a
array_given [] = refl
array_given (e ∷ es) = refl

not_there : (x k : List ℕ) (vs : Variables) → find bytes_cmp k vs ≡ None → find bytes_cmp x vs ≡ cond (same_bytes x k) None (find bytes_cmp x vs)
not_there x k vs none = elim (same_bytes x k) as (λ b. same_bytes x k ≡ b → find bytes_cmp x vs ≡ cond b None (find bytes_cmp x vs)) [
  | true ↦ λ e. ap (λ y. find bytes_cmp y vs) (tells_apart exact_bytes x k e) ∙ none
  | false ↦ λ _. refl
] refl

-- what is found where an array is laid over variables without its name
overlay_over : (x k : List ℕ) (a : Array) (vs : Variables) → find bytes_cmp k vs ≡ None → find bytes_cmp x (with_array k a vs) ≡ cond (same_bytes x k) (given a) (find bytes_cmp x vs)
overlay_over x k [] vs none = not_there x k vs none
overlay_over x k (e ∷ es) vs none = find-put bytes_cmp nat_list_cmp_total x k (e ∷ es) vs

sorted_with : (k : List ℕ) (a : Array) (vs : Variables) → T (is_sorted bytes_cmp vs) → T (is_sorted bytes_cmp (with_array k a vs))
sorted_with k [] vs sorted = sorted
sorted_with k (e ∷ es) vs sorted = is_sorted-put bytes_cmp nat_list_cmp_total k (e ∷ es) vs sorted

pub sorted_in_order : (vs : Variables) → T (is_sorted bytes_cmp (in_order vs))
sorted_in_order [] = tt
sorted_in_order (v ∷ vs) = sorted_with v.0 v.1 (in_order vs) (sorted_in_order vs)

-- a name that has no position
abbrev pub IsAbsent : List ℕ → Variables → Type 0
IsAbsent q vs = (at : ℕ) → name_at vs at ≢ Some q

absent_after : (q : List ℕ) (v : List ℕ × Array) (vs : Variables) → IsAbsent q (v ∷ vs) → IsAbsent q vs
absent_after q v vs absent at = absent (suc at)

not_first : (q : List ℕ) (v : List ℕ × Array) (vs : Variables) → IsAbsent q (v ∷ vs) → q ≢ v.0
not_first q v vs absent e = absent 0 (ap Some (sym e))

found_none : (x q : List ℕ) (a : Array) (vs : Variables) → x ≢ q → find bytes_cmp x vs ≡ None → find bytes_cmp x (with_array q a vs) ≡ None
found_none x q [] vs apart none = none
found_none x q (e ∷ es) vs apart none =
    find-put bytes_cmp nat_list_cmp_total x q (e ∷ es) vs ∙ (λ i. cond (differs exact_bytes x q apart i) (Some (e ∷ es)) (none i))

missing : (q : List ℕ) (vs : Variables) → IsAbsent q vs → find bytes_cmp q (in_order vs) ≡ None
missing q [] absent = refl
missing q (v ∷ vs) absent = found_none q v.0 v.1 (in_order vs) (not_first q v vs absent) (missing q vs (absent_after q v vs absent))

-- a name without a position has no array
pub missing_array : (q : List ℕ) (vs : Variables) → IsAbsent q vs → array_of q (in_order vs) ≡ []
missing_array q vs absent = ap (λ o. unwrap_or o []) (missing q vs absent)

position_is : (n : ℕ) (o : Option ℕ) → T (is_position n o) → o ≡ Some n
position_is n None h = absurd h
position_is n (Some k) h = ap Some (eqb-true k n (is_true (nat_eq k n) h))
  where
    is_true : (b : Bool) → T b → b ≡ true
    is_true true t = refl
    is_true false t = absurd t

-- the position of a name is where it stands
position_at : (q : List ℕ) (n at : ℕ) (vs : Variables) (ps : Positions) → T (have_positions n vs ps) → name_at vs at ≡ Some q → find bytes_cmp q ps ≡ Some (n + at)
position_at q n at [] ps placed is = absurd (nothing q is)
position_at q n zero (v ∷ vs) ps placed is =
    ap (λ x. find bytes_cmp x ps) (sym (same_some v.0 q is)) ∙ position_is n (find bytes_cmp v.0 ps) (left_of _ _ placed) ∙ ap Some (omega arith)
position_at q n (suc at) (v ∷ vs) ps placed is = position_at q (suc n) at vs ps (right_of _ _ placed) is ∙ ap Some (omega arith)

-- a name that stands at no position that is known for it has none
pub absent : (q : List ℕ) (vs : Variables) (ps : Positions) → T (have_positions 0 vs ps) → ((at : ℕ) → find bytes_cmp q ps ≡ Some at → name_at vs at ≢ Some q) → IsAbsent q vs
absent q vs ps placed unknown at is = unknown at (position_at q 0 at vs ps placed is ∙ ap Some (omega arith)) is

no_later : (n at : ℕ) → suc n + at ≡ n → ⊥
no_later n at e = omega arith

-- no name stands twice
twice : (q : List ℕ) (n at : ℕ) (v : List ℕ × Array) (vs : Variables) (ps : Positions) → T (have_positions n (v ∷ vs) ps) → name_at vs at ≡ Some q → q ≢ v.0
twice q n at v vs ps placed is e =
    let there : find bytes_cmp q ps ≡ Some (suc n + at) = position_at q (suc n) at vs ps (right_of _ _ placed) is in
    let first : find bytes_cmp q ps ≡ Some n = ap (λ x. find bytes_cmp x ps) e ∙ position_is n (find bytes_cmp v.0 ps) (left_of _ _ placed) in
    no_later n at (same_some (suc n + at) n (sym there ∙ first))

first_absent : (n : ℕ) (v : List ℕ × Array) (vs : Variables) (ps : Positions) → T (have_positions n (v ∷ vs) ps) → IsAbsent v.0 vs
first_absent n v vs ps placed at is = twice v.0 n at v vs ps placed is refl

-- what is found where the first array is laid over the others
found_first : (x : List ℕ) (n : ℕ) (v : List ℕ × Array) (vs : Variables) (ps : Positions) → T (have_positions n (v ∷ vs) ps) → find bytes_cmp x (in_order (v ∷ vs)) ≡ cond (same_bytes x v.0) (given v.1) (find bytes_cmp x (in_order vs))
found_first x n v vs ps placed = overlay_over x v.0 v.1 (in_order vs) (missing v.0 vs (first_absent n v vs ps placed))

doubled : {X : Type 0} (b : Bool) (x y z : X) → cond b x z ≡ cond b x (cond b y z)
doubled true x y z = refl
doubled false x y z = refl

swapped : {X : Type 0} (a b : Bool) (x y z : X) → (a ≡ true → b ≡ true → ⊥) → cond a x (cond b y z) ≡ cond b y (cond a x z)
swapped true true x y z apart = absurd (apart refl refl)
swapped true false x y z apart = refl
swapped false b x y z apart = refl

name_of : (q : List ℕ) (a : Array) (at : ℕ) (vs : Variables) → slice_get vs at ≡ Some (q, a) → name_at vs at ≡ Some q
name_of q a at vs is = ap (option_map (λ v. v.0)) is

apart_tests : (x q k : List ℕ) → q ≢ k → same_bytes x k ≡ true → same_bytes x q ≡ true → ⊥
apart_tests x q k apart a b = apart (sym (tells_apart exact_bytes x q b) ∙ tells_apart exact_bytes x k a)

-- what is found where the array at a position is another
found_set : (x : List ℕ) (n at : ℕ) (vs : Variables) (ps : Positions) (q : List ℕ) (a b : Array) → T (have_positions n vs ps) → slice_get vs at ≡ Some (q, a)
    → find bytes_cmp x (in_order (slice_set vs at (q, b))) ≡ cond (same_bytes x q) (given b) (find bytes_cmp x (in_order vs))
found_set x n at [] ps q a b placed is = absurd (nothing (q, a) is)
found_set x n zero (v ∷ vs) ps q a b placed is =
    let name : v.0 ≡ q = ap (λ w. w.0) (same_some v (q, a) is) in
    overlay_over x q b (in_order vs) (ap (λ k. find bytes_cmp k (in_order vs)) (sym name) ∙ missing v.0 vs (first_absent n v vs ps placed))
    ∙ doubled (same_bytes x q) (given b) (given v.1) (find bytes_cmp x (in_order vs))
    ∙ ap (cond (same_bytes x q) (given b)) (ap (λ k. cond (same_bytes x k) (given v.1) (find bytes_cmp x (in_order vs))) (sym name) ∙ sym (found_first x n v vs ps placed))
found_set x n (suc at) (v ∷ vs) ps q a b placed is =
    let apart : q ≢ v.0 = twice q n at v vs ps placed (name_of q a at vs is) in
    let after = found_set x (suc n) at vs ps q a b (right_of _ _ placed) is in
    let first = found_set v.0 (suc n) at vs ps q a b (right_of _ _ placed) is in
    overlay_over x v.0 v.1 (in_order (slice_set vs at (q, b)))
    (first ∙ ap (λ t. cond t (given b) (find bytes_cmp v.0 (in_order vs))) (differs exact_bytes v.0 q (λ e. apart (sym e))) ∙ missing v.0 vs (first_absent n v vs ps placed))
    ∙ ap (cond (same_bytes x v.0) (given v.1)) after
    ∙ swapped (same_bytes x v.0) (same_bytes x q) (given v.1) (given b) (find bytes_cmp x (in_order vs)) (apart_tests x q v.0 apart)
    ∙ ap (cond (same_bytes x q) (given b)) (sym (found_first x n v vs ps placed))

set_again : (vs : Variables) (at : ℕ) (v : List ℕ × Array) → slice_get vs at ≡ Some v → slice_set vs at v ≡ vs
set_again [] at v is = refl
set_again (w ∷ vs) zero v is = ap (λ y. y ∷ vs) (sym (same_some w v is))
set_again (w ∷ vs) (suc at) v is = ap (λ ys. w ∷ ys) (set_again vs at v is)

-- the array of a name is the one at its position
pub array_at : (at : ℕ) (vs : Variables) (ps : Positions) (q : List ℕ) (a : Array) → T (have_positions 0 vs ps) → slice_get vs at ≡ Some (q, a) → array_of q (in_order vs) ≡ a
array_at at vs ps q a placed is =
    ap (λ ws. array_of q (in_order ws)) (sym (set_again vs at (q, a) is))
    ∙ ap (λ o. unwrap_or o []) (found_set q 0 at vs ps q a a placed is ∙ ap (λ t. cond t (given a) (find bytes_cmp q (in_order vs))) (itself q))
    ∙ array_given a

-- an array with an entry is put at its name
pub written_at : (at : ℕ) (vs : Variables) (ps : Positions) (q : List ℕ) (a b : Array) → b ≢ [] → T (have_positions 0 vs ps) → slice_get vs at ≡ Some (q, a)
    → in_order (slice_set vs at (q, b)) ≡ put bytes_cmp q b (in_order vs)
written_at at vs ps q a [] filled placed is = absurd (filled refl)
written_at at vs ps q a (e ∷ es) filled placed is =
    same_entries bytes_cmp nat_list_cmp_total exact_bytes _ _
    (sorted_in_order (slice_set vs at (q, e ∷ es))) (is_sorted-put bytes_cmp nat_list_cmp_total q (e ∷ es) (in_order vs) (sorted_in_order vs))
    (λ x. found_set x 0 at vs ps q a (e ∷ es) placed is ∙ sym (find-put bytes_cmp nat_list_cmp_total x q (e ∷ es) (in_order vs)))

-- an array has an entry after a write
pub put_filled : (k : List Value) (v : Value) (es : Array) → put values_cmp k v es ≢ []
put_filled k v [] h = cc
put_filled k v (e ∷ es) h = elim (values_cmp k e.0) as (λ o. by_order o ((k, v) ∷ e ∷ es) ((e.0, v) ∷ es) (e ∷ put values_cmp k v es) ≡ [] → ⊥) [
  | Less ↦ λ h. cc
  | Equal ↦ λ h. cc
  | Greater ↦ λ h. cc
] h

find_without : (q x : List ℕ) (vs : Variables) → find bytes_cmp x (filter (λ v. not (same_bytes q v.0)) vs) ≡ cond (same_bytes x q) None (find bytes_cmp x vs)
find_without q x vs =
    find-where_key bytes_cmp (λ y. not (same_bytes q y)) x (λ y t. ap (λ z. not (same_bytes q z)) (sym (exact_bytes x y t))) vs
    ∙ ap (λ t. cond (not t) (find bytes_cmp x vs) None) ((eq_by_cmp_equiv nat_list_cmp_total).symm q x) ∙ turned (same_bytes x q) (find bytes_cmp x vs)
  where
    turned : (b : Bool) (o : Option Array) → cond (not b) o None ≡ cond b None o
    turned true o = refl
    turned false o = refl

sorted_without : (q : List ℕ) (vs : Variables) → T (is_sorted bytes_cmp (filter (λ v. not (same_bytes q v.0)) (in_order vs)))
sorted_without q vs = is_sorted-where_key bytes_cmp (λ y. not (same_bytes q y)) (in_order vs) (sorted_in_order vs)

-- a name whose array has no entries is left out
pub emptied_at : (at : ℕ) (vs : Variables) (ps : Positions) (q : List ℕ) (a : Array) → T (have_positions 0 vs ps) → slice_get vs at ≡ Some (q, a)
    → in_order (slice_set vs at (q, [])) ≡ filter (λ v. not (same_bytes q v.0)) (in_order vs)
emptied_at at vs ps q a placed is =
    same_entries bytes_cmp nat_list_cmp_total exact_bytes _ _ (sorted_in_order (slice_set vs at (q, []))) (sorted_without q vs)
    (λ x. found_set x 0 at vs ps q a [] placed is ∙ sym (find_without q x (in_order vs)))

-- and so is one that has no position
pub none_left_out : (q : List ℕ) (vs : Variables) → IsAbsent q vs → in_order vs ≡ filter (λ v. not (same_bytes q v.0)) (in_order vs)
none_left_out q vs absent =
    same_entries bytes_cmp nat_list_cmp_total exact_bytes _ _ (sorted_in_order vs) (sorted_without q vs)
    (λ x. not_there x q (in_order vs) (missing q vs absent) ∙ sym (find_without q x (in_order vs)))

-- what is found where an array is added behind the others
found_added : (x : List ℕ) (n : ℕ) (vs : Variables) (ps : Positions) (q : List ℕ) (b : Array) → T (have_positions n vs ps) → IsAbsent q vs
    → find bytes_cmp x (in_order (vs ++ (q, b) ∷ [])) ≡ cond (same_bytes x q) (given b) (find bytes_cmp x (in_order vs))
found_added x n [] ps q b placed absent = overlay_over x q b [] refl
found_added x n (v ∷ vs) ps q b placed absent =
    let apart : q ≢ v.0 = not_first q v vs absent in
    let after = found_added x (suc n) vs ps q b (right_of _ _ placed) (absent_after q v vs absent) in
    let first = found_added v.0 (suc n) vs ps q b (right_of _ _ placed) (absent_after q v vs absent) in
    overlay_over x v.0 v.1 (in_order (vs ++ (q, b) ∷ []))
    (first ∙ ap (λ t. cond t (given b) (find bytes_cmp v.0 (in_order vs))) (differs exact_bytes v.0 q (λ e. apart (sym e))) ∙ missing v.0 vs (first_absent n v vs ps placed))
    ∙ ap (cond (same_bytes x v.0) (given v.1)) after
    ∙ swapped (same_bytes x v.0) (same_bytes x q) (given v.1) (given b) (find bytes_cmp x (in_order vs)) (apart_tests x q v.0 apart)
    ∙ ap (cond (same_bytes x q) (given b)) (sym (found_first x n v vs ps placed))

-- an array with an entry, added with a name that has no position, is put at its name
pub added : (vs : Variables) (ps : Positions) (q : List ℕ) (e : _) (es : Array) → T (have_positions 0 vs ps) → IsAbsent q vs
    → in_order (vs ++ (q, e ∷ es) ∷ []) ≡ put bytes_cmp q (e ∷ es) (in_order vs)
added vs ps q e es placed absent =
    same_entries bytes_cmp nat_list_cmp_total exact_bytes _ _
    (sorted_in_order (vs ++ (q, e ∷ es) ∷ [])) (is_sorted-put bytes_cmp nat_list_cmp_total q (e ∷ es) (in_order vs) (sorted_in_order vs))
    (λ x. found_added x 0 vs ps q (e ∷ es) placed absent ∙ sym (find-put bytes_cmp nat_list_cmp_total x q (e ∷ es) (in_order vs)))

-- one with no entries changes nothing
pub added_empty : (vs : Variables) (ps : Positions) (q : List ℕ) → T (have_positions 0 vs ps) → IsAbsent q vs → in_order (vs ++ (q, []) ∷ []) ≡ in_order vs
added_empty vs ps q placed absent =
    same_entries bytes_cmp nat_list_cmp_total exact_bytes _ _ (sorted_in_order (vs ++ (q, []) ∷ [])) (sorted_in_order vs)
    (λ x. found_added x 0 vs ps q [] placed absent ∙ sym (not_there x q (in_order vs) (missing q vs absent)))

is_there : (n : ℕ) → T (nat_eq n n)
is_there n = eqb_refl n

-- the names keep their positions where an array is another
pub positions_set : (n at : ℕ) (vs : Variables) (ps : Positions) (q : List ℕ) (a b : Array) → slice_get vs at ≡ Some (q, a) → T (have_positions n vs ps) → T (have_positions n (slice_set vs at (q, b)) ps)
positions_set n at [] ps q a b is placed = absurd (nothing (q, a) is)
positions_set n zero (v ∷ vs) ps q a b is placed =
    subst (λ k. T (is_position n (find bytes_cmp k ps) && have_positions (suc n) vs ps)) (ap (λ w. w.0) (same_some v (q, a) is)) placed
positions_set n (suc at) (v ∷ vs) ps q a b is placed = both _ _ (left_of _ _ placed) (positions_set (suc n) at vs ps q a b is (right_of _ _ placed))

-- and where a name is added behind them with the position after the last
pub positions_added : (n m : ℕ) (vs : Variables) (ps : Positions) (q : List ℕ) (b : Array) → m ≡ n + length vs → IsAbsent q vs → T (have_positions n vs ps) → T (have_positions n (vs ++ (q, b) ∷ []) (put bytes_cmp q m ps))
positions_added n m [] ps q b end absent placed =
    both _ _
    (subst (λ o. T (is_position n o)) (sym (find-put bytes_cmp nat_list_cmp_total q q m ps ∙ ap (λ t. cond t (Some m) (find bytes_cmp q ps)) (itself q))) (subst (λ k. T (nat_eq k n)) (let is : n ≡ m = omega (arith, end) in is) (is_there n)))
    tt
positions_added n m (v ∷ vs) ps q b end absent placed =
    let apart : q ≢ v.0 = not_first q v vs absent in
    both _ _
    (subst (λ o. T (is_position n o)) (sym (find-put bytes_cmp nat_list_cmp_total v.0 q m ps ∙ ap (λ t. cond t (Some m) (find bytes_cmp v.0 ps)) (differs exact_bytes v.0 q (λ e. apart (sym e))))) (left_of _ _ placed))
    (positions_added (suc n) m vs ps q b (omega (arith, end)) (absent_after q v vs absent) (right_of _ _ placed))
