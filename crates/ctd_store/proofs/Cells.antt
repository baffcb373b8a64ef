-- Values at rows and columns: what a look-up and a write are.
use Rattle.std.proofs.Common.{◌≡◌, ◌≢◌, ℕ, zero, suc, pos, ◌+◌, ◌<◌, ◌≤◌, not, ◌||◌, Bool, List, [], ◌∷◌, ◌++◌, length, drop, get_or, add-one, drop-cons, Option, Some, None, refl, ap, sym, ◌∙◌, arith}
use Rattle.std.specs.Prelude.{slice_set}
use Rattle.std.specs.FinMap.{find}
use Rattle.std.specs.List.{list_any, IsDistinct}
use Rattle.std.specs.Option.{option_or}
use Rattle.std.proofs.lemmas.List.Elements.{filter-append}
use Rattle.std.proofs.lemmas.List.Folds.{list_any-append}
use Rattle.ctd_store.specs.declared.line.Line.{Line}
use Rattle.ctd_store.specs.declared.value.Value.{Value}
use Rattle.ctd_store.specs.declared.value.Value.TheVariants as values
use Rattle.ctd_store.specs.Order.{values_cmp}
use Rattle.ctd_store.specs.calls.Places.{along, grid}
use Rattle.ctd_store.specs.inner.Reading.{visible_entries, ReadsAs}
use Rattle.ctd_store.specs.Store.{Array, has_indices}
use Rattle.ctd_store.specs.calls.Store.{cell, slot, numbered}
use Rattle.ctd_store.proofs.Firsts.{HasEachOnce, once_in_both}
use Rattle.ctd_store.proofs.Lines.{same_first, same_number, none_along, once_along, visible_along, any_along}
use Rattle.ctd_store.proofs.Reading.{in_both, read_before, read_behind}

-- the index list of two values
abbrev pub pair : Value → Value → List Value
pair x y = x ∷ y ∷ []

-- the index that is a number
abbrev pub at_number : ℕ → Value
at_number n = values.Int (pos n)

-- what is found in a grid is found in its first row or in the others
in_rows : (q : List Value) (b : ℕ) (r : Line) (rows : List Line) → find values_cmp q (grid b (r ∷ rows)) ≡ option_or (find values_cmp q (along (slot b) r)) (find values_cmp q (grid (suc b) rows))
in_rows q b r rows = in_both q (along (slot b) r) (grid (suc b) rows)

nothing_more : (o : Option Value) → option_or o None ≡ o
nothing_more None = refl
nothing_more (Some v) = refl

-- in another row there is nothing
none_in_row : (x y : Value) (b : ℕ) (r : Line) → x ≢ at_number b → find values_cmp (pair x y) (along (slot b) r) ≡ None
none_in_row x y b r apart = none_along (pair x y) (slot b) r.base r.values.items (λ n _ e. apart (same_first x (at_number b) _ _ e))

-- nor where no row has the number, or it is no index list of a row
pub none_in_grid : (q : List Value) (b : ℕ) (rows : List Line) → ((n : ℕ) (y : Value) → n < length rows → q ≢ pair (at_number (b + n)) y) → find values_cmp q (grid b rows) ≡ None
none_in_grid q b [] away = refl
none_in_grid q b (r ∷ rows) away =
    in_rows q b r rows
    ∙ (λ k. option_or
    (none_along q (slot b) r.base r.values.items (λ n _ e. away 0 (at_number (r.base + n)) (omega arith) (e ∙ ap (λ m. cell m (r.base + n)) (omega arith))) k)
    (none_in_grid q (suc b) rows (λ n y below e. away (suc n) y (omega (arith, below)) (e ∙ ap (λ m. pair (at_number m) y) (omega arith))) k))

pub no_row : (x y : Value) (b : ℕ) (rows : List Line) → ((n : ℕ) → n < length rows → x ≢ at_number (b + n)) → find values_cmp (pair x y) (grid b rows) ≡ None
no_row x y b rows away = none_in_grid (pair x y) b rows (λ n z below e. away n below (same_first x (at_number (b + n)) _ _ e))

-- where a row has it
pub found_in_grid : (x y : Value) (b at : ℕ) (rows : List Line) (r : Line) → x ≡ at_number (b + at) → at < length rows → r ≡ get_or rows at r → find values_cmp (pair x y) (grid b rows) ≡ find values_cmp (slot (b + at) ++ y ∷ []) (along (slot (b + at)) r)
found_in_grid x y b at [] r here in_range is = absurd (omega (arith, in_range))
found_in_grid x y b zero (z ∷ rows) r here in_range is =
    in_rows (pair x y) b z rows
    ∙ ap (option_or (find values_cmp (pair x y) (along (slot b) z)))
    (none_in_grid (pair x y) (suc b) rows (λ n _ below e. let same = same_number _ _ (sym here ∙ same_first x (at_number (suc b + n)) _ _ e) in absurd (omega (arith, same))))
    ∙ nothing_more (find values_cmp (pair x y) (along (slot b) z))
    ∙ (λ k. find values_cmp (pair (here k) y) (along (slot (plus_zero k)) (sym is k)))
  where
    plus_zero : b ≡ b + 0
    plus_zero = omega arith
found_in_grid x y b (suc at) (z ∷ rows) r here in_range is =
    in_rows (pair x y) b z rows
    ∙ ap (λ o. option_or o (find values_cmp (pair x y) (grid (suc b) rows))) (none_in_row x y b z (λ e. let same = same_number _ _ (sym here ∙ e) in omega (arith, same)))
    ∙ found_in_grid x y (suc b) at rows r (here ∙ ap at_number (omega arith)) (omega (arith, in_range)) is
    ∙ ap (λ m. find values_cmp (slot m ++ y ∷ []) (along (slot m) r)) (omega arith)

-- a value written into a row
pub written_in_grid : (x y : Value) (v : Value) (b at : ℕ) (rows : List Line) (old new : Line) → x ≡ at_number (b + at) → at < length rows → old ≡ get_or rows at old
    → ((front : List Value) → ReadsAs (along front new) ((front ++ y ∷ [], v) ∷ along front old)) → ReadsAs (grid b (slice_set rows at new)) ((pair x y, v) ∷ grid b rows)
written_in_grid x y v b at [] old new here in_range is written q = absurd (omega (arith, in_range))
written_in_grid x y v b zero (r ∷ rows) old new here in_range is written q =
    let plus_zero : b + 0 ≡ b = omega arith in
    read_before (along (slot b) new) ((pair (at_number b) y, v) ∷ along (slot b) old) (grid (suc b) rows) (written (slot b)) q
    ∙ (λ k. find values_cmp q ((pair (sym (here ∙ ap at_number plus_zero) k) y, v) ∷ along (slot b) (is k) ++ grid (suc b) rows))
written_in_grid x y v b (suc at) (r ∷ rows) old new here in_range is written q =
    read_behind (pair x y) v (along (slot b) r) (grid (suc b) (slice_set rows at new)) (grid (suc b) rows)
    (none_in_row x y b r (λ e. let same = same_number _ _ (sym here ∙ e) in omega (arith, same)))
    (written_in_grid x y v (suc b) at rows old new (here ∙ ap at_number (omega arith)) (omega (arith, in_range)) is written) q

-- a row that reads as before
pub kept_in_grid : (b at : ℕ) (rows : List Line) (old new : Line) → old ≡ get_or rows at old → ((front : List Value) → along front new ≡ along front old) → grid b (slice_set rows at new) ≡ grid b rows
kept_in_grid b at [] old new is same = refl
kept_in_grid b zero (r ∷ rows) old new is same = ap (λ es. es ++ grid (suc b) rows) (same (slot b) ∙ ap (along (slot b)) is)
kept_in_grid b (suc at) (r ∷ rows) old new is same = ap (λ es. along (slot b) r ++ es) (kept_in_grid (suc b) at rows old new is same)

-- a row with one value behind the last
pub row_added : (b m : ℕ) (rows : List Line) (new : Line) (v : Value) → m ≡ b + length rows → new.values.items ≡ v ∷ [] → ReadsAs (grid b (rows ++ new ∷ [])) ((cell m new.base, v) ∷ grid b rows)
row_added b m [] new v last one q =
    let here : b ≡ m = omega (arith, last) in
    λ k. find values_cmp q (numbered (slot (here k)) new.base (one k) ++ [])
row_added b m (r ∷ rows) new v last one q =
    read_behind (cell m new.base) v (along (slot b) r) (grid (suc b) (rows ++ new ∷ [])) (grid (suc b) rows)
    (none_in_row (at_number m) (at_number new.base) b r (λ e. let same = same_number _ _ e in omega (arith, same, last)))
    (row_added (suc b) m rows new v (omega (arith, last)) one) q

-- another array that has nothing at two numbers hides nothing
pub visible_cells : (others : Array) (b : ℕ) (rows : List Line) → ((m n : ℕ) → b ≤ m → find values_cmp (cell m n) others ≡ None) → visible_entries others (grid b rows) ≡ grid b rows
visible_cells others b [] none = refl
visible_cells others b (r ∷ rows) none =
    filter-append (λ e. not (has_indices others e.0)) (along (slot b) r) (grid (suc b) rows)
    ∙ (λ i. visible_along others (slot b) r.base r.values.items (λ n. none b n (omega arith)) i ++ visible_cells others (suc b) rows (λ m n above. none m n (omega (arith, above))) i)

-- no row comes twice
pub once_in_grid : (b : ℕ) (rows : List Line) → HasEachOnce (grid b rows)
unfolding IsDistinct
once_in_grid b [] = tt
once_in_grid b (r ∷ rows) =
    once_in_both (along (slot b) r) (grid (suc b) rows) (once_along (slot b) r.base r.values.items) (once_in_grid (suc b) rows)
    (visible_cells (along (slot b) r) (suc b) rows (λ m n above. none_in_row (at_number m) (at_number n) b r (λ e. let same = same_number _ _ e in omega (arith, same, above))))

-- where there are no rows it does not matter where they would begin
pub rows_begun : (b c : ℕ) (rows : List Line) → (0 < length rows → c ≡ b) → grid c rows ≡ grid b rows
rows_begun b c [] same = refl
rows_begun b c (r ∷ rows) same = ap (λ n. grid n (r ∷ rows)) (same (omega arith))

-- rows from a place on
pub grid_from : (b n : ℕ) (rows : List Line) (r : Line) → n < length rows → r ≡ get_or rows n r → grid (b + n) (drop n rows) ≡ along (slot (b + n)) r ++ grid (b + (n + 1)) (drop (n + 1) rows)
grid_from b n rows r in_range is =
    let next : suc (b + n) ≡ b + (n + 1) = omega arith in
    ap (grid (b + n)) (drop-cons rows n r in_range ∙ ap (λ y. y ∷ drop (suc n) rows) (sym is))
    ∙ (λ k. along (slot (b + n)) r ++ grid (next k) (drop (sym (add-one n) k) rows))

-- some entry of a grid has a value of a kind just where a row has one
pub any_in_grid : (F : Value → Bool) (b : ℕ) (rows : List Line) → list_any (λ e. F e.1) (grid b rows) ≡ list_any (λ r. list_any F r.values.items) rows
any_in_grid F b [] = refl
any_in_grid F b (r ∷ rows) = list_any-append (λ e. F e.1) (along (slot b) r) (grid (suc b) rows) ∙ (λ i. any_along F (slot b) r.base r.values.items i || any_in_grid F (suc b) rows i)
