-- The value without indices, a row and a grid, side by side: what a look-up and a write are.
use Rattle.std.proofs.Common.{◌≡◌, ◌≢◌, ◌+◌, ◌<◌, ◌≤◌, ◌||◌, Bool, false, List, [], ◌∷◌, ◌++◌, length, get_or, Option, Some, None, is_some, not, ap, refl, sym, ◌∙◌, arith}
use Rattle.std.specs.FinMap.{find}
use Rattle.std.specs.List.{list_any, IsDistinct}
use Rattle.std.specs.Option.{option_or}
use Rattle.std.proofs.lemmas.List.{append-nil}
use Rattle.std.proofs.lemmas.List.Elements.{filter-append}
use Rattle.std.proofs.lemmas.List.Folds.{list_any-append}
use Rattle.ctd_store.specs.declared.grid.Grid.{Grid}
use Rattle.ctd_store.specs.declared.line.Line.{Line}
use Rattle.ctd_store.specs.declared.places.Places.{Places}
use Rattle.ctd_store.specs.declared.value.Value.{Value}
use Rattle.ctd_store.specs.Order.{values_cmp}
use Rattle.ctd_store.specs.calls.Places.{along, cells, grid, place_entries, scalar_entry}
use Rattle.ctd_store.specs.inner.Reading.{ReadsAs}
use Rattle.ctd_store.specs.Store.{Array, has_indices}
use Rattle.ctd_store.specs.calls.Store.{cell}
use Rattle.ctd_store.proofs.Cells.{at_number, pair, none_in_grid, once_in_grid, visible_cells}
use Rattle.ctd_store.proofs.Firsts.{HasEachOnce, once_in_both}
use Rattle.ctd_store.proofs.Lines.{any_along, none_along, once_along, visible_along}
use Rattle.ctd_store.proofs.Reading.{in_both, read_before, read_behind, read_over}

none_in_row : (q : List Value) (r : Line) → ((x : Value) → q ≢ x ∷ []) → find values_cmp q (along [] r) ≡ None
none_in_row q r away = none_along q [] r.base r.values.items (λ n _. away (at_number (r.base + n)))

none_in_cells : (q : List Value) (g : Grid) → ((x y : Value) → q ≢ pair x y) → find values_cmp q (cells g) ≡ None
none_in_cells q g away = none_in_grid q g.base g.rows.items (λ n y _. away (at_number (g.base + n)) y)

none_scalar : (x : Value) (xs : List Value) (s : Option Value) → find values_cmp (x ∷ xs) (scalar_entry s) ≡ None
none_scalar x xs None = refl
none_scalar x xs (Some w) = refl

-- what is found in the three, one after the other
in_three : (q : List Value) (p : Places) → find values_cmp q (place_entries p) ≡ option_or (find values_cmp q (scalar_entry p.scalar)) (option_or (find values_cmp q (along [] p.row)) (find values_cmp q (cells p.grid)))
in_three q p = in_both q (scalar_entry p.scalar) (along [] p.row ++ cells p.grid) ∙ ap (option_or (find values_cmp q (scalar_entry p.scalar))) (in_both q (along [] p.row) (cells p.grid))

pub found_scalar : (p : Places) → find values_cmp [] (place_entries p) ≡ p.scalar
found_scalar p =
    in_three [] p
    ∙ (λ k. option_or (find values_cmp [] (scalar_entry p.scalar)) (option_or (none_in_row [] p.row (λ x e. cc) k) (none_in_cells [] p.grid (λ x y e. cc) k)))
    ∙ alone p.scalar
  where
    alone : (s : Option Value) → option_or (find values_cmp [] (scalar_entry s)) None ≡ s
    alone None = refl
    alone (Some x) = refl

pub found_in_row : (x : Value) (p : Places) → find values_cmp (x ∷ []) (place_entries p) ≡ find values_cmp (x ∷ []) (along [] p.row)
found_in_row x p =
    in_three (x ∷ []) p
    ∙ (λ k. option_or (none_scalar x [] p.scalar k) (option_or (find values_cmp (x ∷ []) (along [] p.row)) (none_in_cells (x ∷ []) p.grid (λ y z e. cc) k)))
    ∙ alone (find values_cmp (x ∷ []) (along [] p.row))
  where
    alone : (o : Option Value) → option_or o None ≡ o
    alone None = refl
    alone (Some w) = refl

pub found_in_cells : (x y : Value) (p : Places) → find values_cmp (pair x y) (place_entries p) ≡ find values_cmp (pair x y) (cells p.grid)
found_in_cells x y p =
    in_three (pair x y) p
    ∙ (λ k. option_or (none_scalar x (y ∷ []) p.scalar k) (option_or (none_in_row (pair x y) p.row (λ z e. cc) k) (find values_cmp (pair x y) (cells p.grid))))

pub none_placed : (q : List Value) (p : Places) → 3 ≤ length q → find values_cmp q (place_entries p) ≡ None
none_placed [] p long = absurd (omega (arith, long))
none_placed (x ∷ []) p long = absurd (omega (arith, long))
none_placed (x ∷ y ∷ []) p long = absurd (omega (arith, long))
none_placed (x ∷ y ∷ z ∷ zs) p long =
    let q = x ∷ y ∷ z ∷ zs in
    in_three q p
    ∙ (λ k. option_or (none_scalar x (y ∷ z ∷ zs) p.scalar k) (option_or (none_in_row q p.row (λ w e. cc) k) (none_in_cells q p.grid (λ v w e. cc) k)))

-- index lists by their lengths
pub none_of : (xs : List Value) → length xs < 1 → xs ≡ []
none_of [] short = refl
none_of (x ∷ xs) short = absurd (omega (arith, short))

pub one_of : (xs : List Value) (x : Value) → 1 ≤ length xs → length xs < 2 → x ≡ get_or xs 0 x → xs ≡ x ∷ []
one_of [] x long short is = absurd (omega (arith, long))
one_of (y ∷ []) x long short is = ap (λ z. z ∷ []) (sym is)
one_of (y ∷ z ∷ zs) x long short is = absurd (omega (arith, short))

pub two_of : (xs : List Value) (x y : Value) → 2 ≤ length xs → length xs < 3 → x ≡ get_or xs 0 x → y ≡ get_or xs 1 y → xs ≡ pair x y
two_of [] x y long short is next = absurd (omega (arith, long))
two_of (v ∷ []) x y long short is next = absurd (omega (arith, long))
two_of (v ∷ w ∷ []) x y long short is next = λ k. pair (sym is k) (sym next k)
two_of (v ∷ w ∷ z ∷ zs) x y long short is next = absurd (omega (arith, short))

-- what a value written into one of them is among all
pub written_scalar : (v : Value) (s : Option Value) (es : Array) → ReadsAs (scalar_entry (Some v) ++ es) (([], v) ∷ scalar_entry s ++ es)
written_scalar v None es q = refl
written_scalar v (Some w) es q = read_over [] v w es q

pub written_row : (x v : Value) (s : Option Value) (new old es : Array) → ReadsAs new ((x ∷ [], v) ∷ old) → ReadsAs (scalar_entry s ++ (new ++ es)) ((x ∷ [], v) ∷ scalar_entry s ++ (old ++ es))
written_row x v s new old es written = read_behind (x ∷ []) v (scalar_entry s) (new ++ es) (old ++ es) (none_scalar x [] s) (read_before new ((x ∷ [], v) ∷ old) es written)

pub written_cells : (x y v : Value) (s : Option Value) (r : Line) (new old : Array) → ReadsAs new ((pair x y, v) ∷ old) → ReadsAs (scalar_entry s ++ (along [] r ++ new)) ((pair x y, v) ∷ scalar_entry s ++ (along [] r ++ old))
written_cells x y v s r new old written =
    read_behind (pair x y) v (scalar_entry s) (along [] r ++ new) (along [] r ++ old) (none_scalar x (y ∷ []) s)
    (read_behind (pair x y) v (along [] r) new old (none_in_row (pair x y) r (λ z e. cc)) written)

pub any_placed : (F : Value → Bool) (p : Places) → list_any (λ e. F e.1) (place_entries p) ≡ (list_any (λ e. F e.1) (scalar_entry p.scalar) || (list_any F p.row.values.items || list_any (λ e. F e.1) (cells p.grid)))
any_placed F p =
    list_any-append (λ e. F e.1) (scalar_entry p.scalar) (along [] p.row ++ cells p.grid)
    ∙ ap (λ t. list_any (λ e. F e.1) (scalar_entry p.scalar) || t)
    (list_any-append (λ e. F e.1) (along [] p.row) (cells p.grid) ∙ ap (λ t. t || list_any (λ e. F e.1) (cells p.grid)) (any_along F [] p.row.base p.row.values.items))

once_scalar : (s : Option Value) → HasEachOnce (scalar_entry s)
unfolding IsDistinct
once_scalar None = tt
once_scalar (Some x) = (tt, tt)

-- no index list comes twice
pub once_placed : (p : Places) → HasEachOnce (place_entries p)
once_placed p =
    let row = along [] p.row in
    once_in_both (scalar_entry p.scalar) (row ++ cells p.grid) (once_scalar p.scalar)
    (once_in_both row (cells p.grid) (once_along [] p.row.base p.row.values.items) (once_in_grid p.grid.base p.grid.rows.items)
    (visible_cells row p.grid.base p.grid.rows.items (λ m n _. none_in_row (cell m n) p.row (λ x e. cc))))
    (filter-append (λ e. not (has_indices (scalar_entry p.scalar) e.0)) row (cells p.grid)
    ∙ (λ i.
    visible_along (scalar_entry p.scalar) [] p.row.base p.row.values.items (λ n. none_scalar (at_number n) [] p.scalar) i
    ++ visible_cells (scalar_entry p.scalar) p.grid.base p.grid.rows.items (λ m n _. none_scalar (at_number m) (at_number n ∷ []) p.scalar) i))

-- a row and nothing else
pub row_alone : (p : Places) → is_some p.scalar ≡ false → length p.grid.rows.items ≡ 0 → place_entries p ≡ along [] p.row
row_alone p none empty = (λ i. scalar_entry (nothing p.scalar none i) ++ (along [] p.row ++ no_rows p.grid.base p.grid.rows.items empty i)) ∙ append-nil (along [] p.row)
  where
    nothing : (s : Option Value) → is_some s ≡ false → s ≡ None
    nothing None e = refl
    nothing (Some x) e = cc

    no_rows : (b : _) (rows : List Line) → length rows ≡ 0 → grid b rows ≡ []
    no_rows b [] e = refl
    no_rows b (r ∷ rows) e = absurd (omega (arith, e))
