-- The spot after many bytes, by their newlines and the last of them.
use Rattle.std.proofs.Common.{◌≡◌, ℕ, suc, ◌+◌, ◌-◌, ◌<◌, ◌≤◌, Bool, true, false, List, [], ◌∷◌, ◌++◌, length, take, drop, get_or, refl, ap, sym, ◌∙◌, arith, length-drop}
use Rattle.std.specs.Prelude.{count_by}
use Rattle.std.specs.List.{fold}
use Rattle.std.proofs.lemmas.List.Sums.{fold-append}
use Rattle.std.proofs.lemmas.List.{take-append-drop, at_drop_more, get_or-drop}
use Rattle.std.proofs.lemmas.Grind.{common_steps}
use Rattle.memchr.specs.Find.{Passes, Nowhere, NoneAfter, is_byte}
use Rattle.ctd_source.specs.declared.spot.Spot.{Spot}
use Rattle.ctd_source.specs.TestData.{is_newline}
use Rattle.ctd_source.specs.inner.TestData.{spot_after}

offset_once : (s : Spot) (b : ℕ) → (spot_after s b).offset ≡ s.offset + 1
offset_once s b = grind (arith, common_steps)

pub fold_offset : (s : Spot) (xs : List ℕ) → (fold spot_after s xs).offset ≡ s.offset + length xs
fold_offset s [] = omega arith
fold_offset s (x ∷ xs) = omega (arith, fold_offset (spot_after s x) xs, offset_once s x)

line_once : (s : Spot) (x : ℕ) (xs : List ℕ) → (spot_after s x).line + count_by is_newline xs ≡ s.line + count_by is_newline (x ∷ xs)
line_once s x xs = grind (arith, common_steps)

pub fold_line : (s : Spot) (xs : List ℕ) → (fold spot_after s xs).line ≡ s.line + count_by is_newline xs
fold_line s [] = omega arith
fold_line s (x ∷ xs) = fold_line (spot_after s x) xs ∙ line_once s x xs

column_once : (s : Spot) (x : ℕ) → ¬ (is_newline x ≡ true) → (spot_after s x).column ≡ s.column + 1
column_once s x other = grind (arith, common_steps)

tail_none : (x : ℕ) (xs : List ℕ) → Nowhere (Passes (is_byte 10) (x ∷ xs)) 0 (length (x ∷ xs)) → Nowhere (Passes (is_byte 10) xs) 0 (length xs)
tail_none x xs none k low high = none (suc k) (omega arith) (omega arith)

pub fold_column : (s : Spot) (xs : List ℕ) → Nowhere (Passes (is_byte 10) xs) 0 (length xs) → (fold spot_after s xs).column ≡ s.column + length xs
fold_column s [] none = omega arith
fold_column s (x ∷ xs) none = omega (arith, fold_column (spot_after s x) xs (tail_none x xs none), column_once s x (none 0 (omega arith) (omega arith)))

later_none : (xs : List ℕ) (k : ℕ) → Nowhere (Passes (is_byte 10) xs) (k + 1) (length xs) → Nowhere (Passes (is_byte 10) (drop (k + 1) xs)) 0 (length (drop (k + 1) xs))
later_none xs k none j low high passes =
    let same : get_or (drop (k + 1) xs) j 0 ≡ get_or xs (k + 1 + j) 0 = get_or-drop (k + 1) xs j 0 in
    none (k + 1 + j) (omega arith) (omega (arith, length-drop (k + 1) xs)) (sym (ap (is_byte 10) same) ∙ passes)

column_newline : (s : Spot) (x : ℕ) → is_newline x ≡ true → (spot_after s x).column ≡ 1
column_newline s x is = grind (arith, common_steps)

-- the last newline begins the line
pub fold_column_last : (s : Spot) (xs : List ℕ) (k : ℕ) → k < length xs → Nowhere (Passes (is_byte 10) xs) (k + 1) (length xs) → Passes (is_byte 10) xs k → (fold spot_after s xs).column ≡ length xs - k
fold_column_last s xs k within none is =
    let front = take k xs in
    let back = drop (k + 1) xs in
    let x = get_or xs k 0 in
    let split : front ++ x ∷ back ≡ xs = ap (λ ys. front ++ ys) (sym (at_drop_more (λ l. l) xs k 0 within)) ∙ take-append-drop k xs in
    let t = fold spot_after s front in
    ap (λ ys. (fold spot_after s ys).column) (sym split)
    ∙ ap (λ z. z.column) (fold-append spot_after s front (x ∷ back))
    ∙ fold_column (spot_after t x) back (later_none xs k none)
    ∙ omega (arith, column_newline t x is, length-drop (k + 1) xs)

-- spots are equal where their parts are
pub same_spot : (s t : Spot) → s.line ≡ t.line → s.column ≡ t.column → s.offset ≡ t.offset → s ≡ t
same_spot s t line column offset = λ i. record { line = line i; column = column i; offset = offset i }

count_cons : (x : ℕ) (xs : List ℕ) → ¬ (is_newline x ≡ true) → count_by is_newline xs ≡ 0 → count_by is_newline (x ∷ xs) ≡ 0
count_cons x xs other rest = grind (arith, common_steps)

none_counted : (xs : List ℕ) → Nowhere (Passes (is_byte 10) xs) 0 (length xs) → count_by is_newline xs ≡ 0
none_counted [] none = refl
none_counted (x ∷ xs) none = count_cons x xs (none 0 (omega arith) (omega arith)) (none_counted xs (tail_none x xs none))

-- with no newline
pub spot_no_newline : (s : Spot) (xs : List ℕ) → Nowhere (Passes (is_byte 10) xs) 0 (length xs) → record { line = s.line; column = s.column + length xs; offset = s.offset + length xs } ≡ fold spot_after s xs
spot_no_newline s xs none = same_spot _ _ (omega (arith, fold_line s xs, none_counted xs none)) (sym (fold_column s xs none)) (sym (fold_offset s xs))

-- with a last newline at k
pub spot_last_newline : (s : Spot) (xs : List ℕ) (k lines : ℕ) → NoneAfter (Passes (is_byte 10) xs) 0 (length xs) k → Passes (is_byte 10) xs k → lines ≡ count_by is_newline xs
    → record { line = s.line + lines; column = length xs - k; offset = s.offset + length xs } ≡ fold spot_after s xs
spot_last_newline s xs k lines none is counted = same_spot _ _ (omega (arith, fold_line s xs, counted)) (sym (fold_column_last s xs k none.high none.after is)) (sym (fold_offset s xs))

column_by : (b : Bool) (s : Spot) (x : ℕ) (xs : List ℕ) → is_newline x ≡ b → count_by is_newline (x ∷ xs) ≡ 0 → ((t : Spot) → count_by is_newline xs ≡ 0 → (fold spot_after t xs).column ≡ t.column + length xs) → (fold spot_after (spot_after s x) xs).column ≡ s.column + length (x ∷ xs)
column_by true s x xs is none rest = let some : count_by is_newline (x ∷ xs) ≡ count_by is_newline xs + 1 = grind (arith, common_steps) in absurd (omega (arith, some, none))
column_by false s x xs is none rest =
    let others : count_by is_newline xs ≡ 0 = grind (arith, common_steps) in
    let next : (spot_after s x).column ≡ s.column + 1 = grind (arith, common_steps) in
    omega (arith, rest (spot_after s x) others, next)

column_in_line : (s : Spot) (xs : List ℕ) → count_by is_newline xs ≡ 0 → (fold spot_after s xs).column ≡ s.column + length xs
column_in_line s [] none = omega arith
column_in_line s (x ∷ xs) none = column_by (is_newline x) s x xs refl none (λ t others. column_in_line t xs others)

-- with none, by their count
pub spot_in_line : (s : Spot) (xs : List ℕ) (n : ℕ) → length xs ≡ n → count_by is_newline xs ≡ 0 → record { line = s.line; column = s.column + n; offset = s.offset + n } ≡ fold spot_after s xs
spot_in_line s xs n len none = same_spot _ _ (omega (arith, fold_line s xs, none)) (omega (arith, column_in_line s xs none, len)) (omega (arith, fold_offset s xs, len))

-- A spot that runs on over bytes of one line: its column counts from where the line began.
pub runs_no_newline : (line from offset : ℕ) (xs : List ℕ) → from ≤ offset → Nowhere (Passes (is_byte 10) xs) 0 (length xs)
    → record { line = line; column = offset + length xs - from + 1; offset = offset + length xs } ≡ fold spot_after (record { line = line; column = offset - from + 1; offset = offset }) xs
runs_no_newline line from offset xs begun none =
    let s : Spot = record { line = line; column = offset - from + 1; offset = offset } in
    same_spot _ _ refl (omega (arith, begun)) refl ∙ spot_no_newline s xs none

pub runs_last_newline : (line from offset : ℕ) (xs : List ℕ) (k lines : ℕ) → NoneAfter (Passes (is_byte 10) xs) 0 (length xs) k → Passes (is_byte 10) xs k → lines ≡ count_by is_newline xs
    → record { line = line + lines; column = offset + length xs - (offset + k + 1) + 1; offset = offset + length xs } ≡ fold spot_after (record { line = line; column = offset - from + 1; offset = offset }) xs
runs_last_newline line from offset xs k lines none is counted =
    let s : Spot = record { line = line; column = offset - from + 1; offset = offset } in
    same_spot _ _ refl (omega (arith, none.high)) refl ∙ spot_last_newline s xs k lines none is counted

pub runs_in_line : (line from offset : ℕ) (xs : List ℕ) (n : ℕ) → from ≤ offset → length xs ≡ n → count_by is_newline xs ≡ 0
    → record { line = line; column = offset + n - from + 1; offset = offset + n } ≡ fold spot_after (record { line = line; column = offset - from + 1; offset = offset }) xs
runs_in_line line from offset xs n begun len none =
    let s : Spot = record { line = line; column = offset - from + 1; offset = offset } in
    same_spot _ _ refl (omega (arith, begun)) refl ∙ spot_in_line s xs n len none
