-- A run of held bytes, and a row of bytes that ends within it.
use Rattle.std.proofs.Common.{◌≡◌, ◌<◌, ◌≤◌, ℕ, suc, ◌+◌, ◌&&◌, Bool, true, false, cond, List, [], ◌∷◌, ◌++◌, length, take, refl, ap, sym, ◌∙◌, arith, Ok, Some}
use Rattle.std.specs.Prelude.{count_by, slice_get}
use Rattle.std.specs.List.{take_while, prefix_len, list_all}
use Rattle.std.proofs.lemmas.Grind.{common_steps}
use Rattle.std.proofs.lemmas.List.{take-append-le, take-take}
use Rattle.std.proofs.lemmas.List.Sums.{prefix_len-le-length}
use Rattle.ctd_source.specs.TestData.{TestData, next_byte, is_newline, first_of}
use Rattle.ctd_source.specs.calls.Consistency.{CursorState, IsConsistentWith}
use Rattle.ctd_source.proofs.Looks.{look_found}
use Rattle.ctd_command.proofs.DigitRuns.{front_passes}

stops_by : (p : ℕ → Bool) (b : Bool) (xs ys : List ℕ) → cond b (1 + prefix_len p xs) 0 < suc (length xs) → (prefix_len p xs < length xs → prefix_len p (xs ++ ys) ≡ prefix_len p xs)
    → cond b (1 + prefix_len p (xs ++ ys)) 0 ≡ cond b (1 + prefix_len p xs) 0
stops_by p true xs ys within rest = ap (λ k. 1 + k) (rest (omega arith))
stops_by p false xs ys within rest = refl

-- a row that ends within some bytes ends there whatever follows them
pub stops_within : (p : ℕ → Bool) (xs ys : List ℕ) → prefix_len p xs < length xs → prefix_len p (xs ++ ys) ≡ prefix_len p xs
stops_within p [] ys within = absurd (omega arith)
stops_within p (x ∷ xs) ys within = stops_by p (p x) xs ys within (λ h. stops_within p xs ys h)

pub while_within : (p : ℕ → Bool) (xs ys : List ℕ) → prefix_len p xs < length xs → take_while p (xs ++ ys) ≡ take_while p xs
while_within p xs ys within =
    ap (λ k. take k (xs ++ ys)) (stops_within p xs ys within) ∙ take-append-le (prefix_len p xs) xs ys (prefix_len-le-length p xs)

row_by : (p : ℕ → Bool) (b : Bool) (x : ℕ) (xs : List ℕ) → ((y : ℕ) → p y ≡ true → is_newline y ≡ false) → p x ≡ b → list_all p (x ∷ xs) ≡ true → (list_all p xs ≡ true → count_by is_newline xs ≡ 0) → count_by is_newline (x ∷ xs) ≡ 0
row_by p true x xs others is all rest =
    let other : is_newline x ≡ false = others x is in
    let none : count_by is_newline xs ≡ 0 = rest (sym (ap (λ b. b && list_all p xs) is) ∙ all) in
    grind (arith, common_steps)
row_by p false x xs others is all rest = let never : false ≡ true = sym (ap (λ b. b && list_all p xs) is) ∙ all in cc

-- bytes of which none ends a line are in one line
all_in_line : (p : ℕ → Bool) (xs : List ℕ) → ((y : ℕ) → p y ≡ true → is_newline y ≡ false) → list_all p xs ≡ true → count_by is_newline xs ≡ 0
all_in_line p [] others all = refl
all_in_line p (x ∷ xs) others all = row_by p (p x) x xs others refl all (λ rest. all_in_line p xs others rest)

pub front_in_line : (p : ℕ → Bool) → ((y : ℕ) → p y ≡ true → is_newline y ≡ false) → (xs : List ℕ) → count_by is_newline (take (prefix_len p xs) xs) ≡ 0
front_in_line p others xs = all_in_line p (take (prefix_len p xs) xs) others (front_passes p xs)

-- the front of a run is that of what is held
pub run_front : (run held : List ℕ) (n : ℕ) → n ≤ length run → take (length run) held ≡ run → take n held ≡ take n run
run_front run held n within front = sym (take-take n (length run) held within) ∙ ap (take n) front

-- a byte that is held before the limit is looked at
pub held_next : (d : TestData) (s : CursorState) → IsConsistentWith d s → s.taken ≡ s.spot.offset + length s.held → 0 < length s.held → s.spot.offset < s.limit → next_byte d s.spot.offset ≡ Ok (slice_get (take 1 s.held) 0)
held_next d s h counted some within = sym (ap first_of (look_found d s 1 h counted (omega (arith, some)) (omega (arith, within))))

-- the first byte of a run is the first that is held
pub first_held : (run held : List ℕ) (byte : ℕ) → take (length run) held ≡ run → slice_get run 0 ≡ Some byte → slice_get (take 1 held) 0 ≡ Some byte
first_held [] held byte front first = cc
first_held (x ∷ xs) [] byte front first = cc
first_held (x ∷ xs) (h ∷ hs) byte front first = let same : h ≡ x = cc in ap Some same ∙ first
