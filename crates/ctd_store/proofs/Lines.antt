-- Values at numbers that follow one another: what a look-up and a write are.
use Rattle.std.proofs.Common.{◌≡◌, ◌≢◌, ℕ, zero, suc, pos, ◌+◌, ◌<◌, ◌≤◌, cond, not, is_some, ◌||◌, Bool, List, [], ◌∷◌, ◌++◌, length, take, drop, get_or, add-one, drop-cons, Some, None, refl, ap, sym, ◌∙◌, arith}
use Rattle.std.proofs.lemmas.List.{append_cancel_left}
use Rattle.std.specs.declared.cmp.Ordering.TheVariants.{Less}
use Rattle.std.specs.FinMap.{find, put}
use Rattle.std.specs.FinMap.Entries.{by_order}
use Rattle.std.specs.List.{list_any, IsDistinct}
use Rattle.ctd_store.specs.declared.value.Value.{Value}
use Rattle.ctd_store.specs.declared.value.Value.TheVariants as values
use Rattle.ctd_store.specs.Order.{values_cmp, same_values}
use Rattle.ctd_store.specs.inner.OrderLaws.{values_equiv, exact_lists}
use Rattle.ctd_store.specs.inner.Reading.{visible_entries, ReadsAs}
use Rattle.ctd_store.specs.Store.{Array}
use Rattle.ctd_store.specs.calls.Store.{slot, numbered, by_indices}
use Rattle.ctd_store.proofs.Firsts.{HasEachOnce, once_more}
use Rattle.ctd_store.proofs.Reading.{differs, read_behind, read_over}

-- the first of some values
head : Value → List Value → Value
head x [] = x
head x (y ∷ ys) = y

pub same_first : (x y : Value) (xs ys : List Value) → x ∷ xs ≡ y ∷ ys → x ≡ y
unfolding head
same_first x y xs ys e = ap (head x) e

number : Value → ℕ
number (values.Int (pos n)) = n
number x = 0

pub same_number : (m n : ℕ) → values.Int (pos m) ≡ values.Int (pos n) → m ≡ n
unfolding number
same_number m n e = ap number e

-- behind the same indices
pub same_last : (front : List Value) (x y : Value) → front ++ x ∷ [] ≡ front ++ y ∷ [] → x ≡ y
same_last front x y e = same_first x y [] [] (append_cancel_left front (x ∷ []) (y ∷ []) e)

pub same_slot : (front : List Value) (m n : ℕ) → front ++ slot m ≡ front ++ slot n → m ≡ n
same_slot front m n e = same_number m n (same_last front (values.Int (pos m)) (values.Int (pos n)) e)

-- no number of so many from one on
abbrev pub Elsewhere : List Value → List Value → ℕ → ℕ → Type 0
Elsewhere q front b count = (n : ℕ) → n < count → q ≢ front ++ slot (b + n)

pub none_along : (q front : List Value) (b : ℕ) (xs : List Value) → Elsewhere q front b (length xs) → find values_cmp q (numbered front b xs) ≡ None
none_along q front b [] away = refl
none_along q front b (x ∷ xs) away =
    ap (λ t. cond t (Some x) (find values_cmp q (numbered front (suc b) xs))) (differs exact_lists q (front ++ slot b) (λ e. away 0 (omega arith) (e ∙ ap (λ n. front ++ slot n) (omega arith))))
    ∙ none_along q front (suc b) xs (λ n below e. away (suc n) (omega (arith, below)) (e ∙ ap (λ n. front ++ slot n) (omega arith)))

pub found_along : (q front : List Value) (b at : ℕ) (xs : List Value) (w : Value) → q ≡ front ++ slot (b + at) → at < length xs → w ≡ get_or xs at w → find values_cmp q (numbered front b xs) ≡ Some w
found_along q front b at [] w here in_range is = absurd (omega (arith, in_range))
found_along q front b zero (x ∷ xs) w here in_range is =
    ap (λ k. cond (same_values k (front ++ slot b)) (Some x) (find values_cmp k (numbered front (suc b) xs))) (here ∙ ap (λ n. front ++ slot n) (omega arith))
    ∙ ap (λ t. cond t (Some x) (find values_cmp (front ++ slot b) (numbered front (suc b) xs))) (values_equiv.refl (front ++ slot b))
    ∙ ap Some (sym is)
found_along q front b (suc at) (x ∷ xs) w here in_range is =
    ap (λ t. cond t (Some x) (find values_cmp q (numbered front (suc b) xs))) (differs exact_lists q (front ++ slot b) (λ e. let same = same_slot front _ _ (sym here ∙ e) in omega (arith, same)))
    ∙ found_along q front (suc b) at xs w (here ∙ ap (λ n. front ++ slot n) (omega arith)) (omega (arith, in_range)) is

-- a value written among the others or just behind them
pub written_along : (k front : List Value) (b at : ℕ) (xs : List Value) (v : Value) → k ≡ front ++ slot (b + at) → at ≤ length xs
    → ReadsAs (numbered front b (take at xs ++ v ∷ drop (suc at) xs)) ((k, v) ∷ numbered front b xs)
written_along k front b zero [] v here in_range q = ap (λ k. find values_cmp q ((k, v) ∷ [])) (ap (λ n. front ++ slot n) (omega arith) ∙ sym here)
written_along k front b zero (x ∷ xs) v here in_range q =
    read_over (front ++ slot b) v x (numbered front (suc b) xs) q
    ∙ ap (λ k. find values_cmp q ((k, v) ∷ (front ++ slot b, x) ∷ numbered front (suc b) xs)) (ap (λ n. front ++ slot n) (omega arith) ∙ sym here)
written_along k front b (suc at) [] v here in_range q = absurd (omega (arith, in_range))
written_along k front b (suc at) (x ∷ xs) v here in_range q =
    read_behind k v ((front ++ slot b, x) ∷ []) (numbered front (suc b) (take at xs ++ v ∷ drop (suc at) xs)) (numbered front (suc b) xs)
    (ap (λ t. cond t (Some x) None) (differs exact_lists k (front ++ slot b) (λ e. let same = same_slot front _ _ (sym here ∙ e) in omega (arith, same))))
    (written_along k front (suc b) at xs v (here ∙ ap (λ n. front ++ slot n) (omega arith)) (omega (arith, in_range))) q

-- no number comes twice
pub once_along : (front : List Value) (b : ℕ) (xs : List Value) → HasEachOnce (numbered front b xs)
unfolding IsDistinct
once_along front b [] = tt
once_along front b (x ∷ xs) = once_more (front ++ slot b) x (numbered front (suc b) xs) (none_along (front ++ slot b) front (suc b) xs (λ n _ e. let same = same_slot front _ _ e in omega (arith, same))) (once_along front (suc b) xs)

-- another array that has none of the numbers hides none
pub visible_along : (others : Array) (front : List Value) (b : ℕ) (xs : List Value) → ((n : ℕ) → find values_cmp (front ++ slot n) others ≡ None) → visible_entries others (numbered front b xs) ≡ numbered front b xs
visible_along others front b [] none = refl
visible_along others front b (x ∷ xs) none =
    let rest = numbered front (suc b) xs in
    ap (λ o. cond (not (is_some o)) ((front ++ slot b, x) ∷ visible_entries others rest) (visible_entries others rest)) (none b)
    ∙ ap (λ r. (front ++ slot b, x) ∷ r) (visible_along others front (suc b) xs none)

-- where there are none it does not matter where they would begin
pub begun : (front : List Value) (b c : ℕ) (xs : List Value) → (0 < length xs → c ≡ b) → numbered front c xs ≡ numbered front b xs
begun front b c [] same = refl
begun front b c (x ∷ xs) same = ap (λ n. numbered front n (x ∷ xs)) (same (omega arith))

-- those from a place on
pub along_from : (front : List Value) (b n : ℕ) (xs : List Value) (x : Value) → n < length xs → x ≡ get_or xs n x → numbered front (b + n) (drop n xs) ≡ (front ++ slot (b + n), x) ∷ numbered front (b + (n + 1)) (drop (n + 1) xs)
along_from front b n xs x in_range is =
    let next : suc (b + n) ≡ b + (n + 1) = omega arith in
    ap (numbered front (b + n)) (drop-cons xs n x in_range ∙ ap (λ y. y ∷ drop (suc n) xs) (sym is))
    ∙ (λ k. (front ++ slot (b + n), x) ∷ numbered front (next k) (drop (sym (add-one n) k) xs))

pub any_along : (F : Value → Bool) (front : List Value) (b : ℕ) (xs : List Value) → list_any (λ e. F e.1) (numbered front b xs) ≡ list_any F xs
any_along F front b [] = refl
any_along F front b (x ∷ xs) = ap (λ t. F x || t) (any_along F front (suc b) xs)

rising : (m n : ℕ) → m < n → values_cmp (slot m) (slot n) ≡ Less
rising m n below = grind arith

-- a row is in order
pub row_in_order : (b : ℕ) (xs : List Value) → by_indices (numbered [] b xs) ≡ numbered [] b xs
row_in_order b [] = refl
row_in_order b (x ∷ []) = refl
row_in_order b (x ∷ y ∷ xs) =
    let later = numbered [] (suc b) (y ∷ xs) in
    ap (put values_cmp (slot b) x) (row_in_order (suc b) (y ∷ xs))
    ∙ ap (λ o. by_order o ((slot b, x) ∷ later) ((slot (suc b), x) ∷ numbered [] (suc (suc b)) xs) ((slot (suc b), y) ∷ put values_cmp (slot b) x (numbered [] (suc (suc b)) xs))) (rising b (suc b) (omega arith))
