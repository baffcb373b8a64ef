-- A cursor that passes digits.
use Rattle.std.proofs.Common.{◌≡◌, ℕ, suc, ◌+◌, ◌<◌, ◌≤◌, ◌&&◌, Bool, true, false, cond, List, [], ◌∷◌, length, take, refl, ap, sym, ◌∙◌, arith, Some, ◌-◌, length-take}
use Rattle.std.specs.Prelude.{slice_get}
use Rattle.std.specs.List.{list_all, prefix_len}
use Rattle.std.specs.Char.{is_ascii_digit}
use Rattle.std.proofs.lemmas.List.{take-take}

both : (a b : Bool) → a ≡ true → b ≡ true → (a && b) ≡ true
both a b e f = ap (λ x. x && b) e ∙ f

front_by : (p : ℕ → Bool) (x : ℕ) (xs : List ℕ) (b : Bool) → p x ≡ b → list_all p (take (prefix_len p xs) xs) ≡ true → list_all p (take (cond b (1 + prefix_len p xs) 0) (x ∷ xs)) ≡ true
front_by p x xs true e h = let one : 1 + prefix_len p xs ≡ suc (prefix_len p xs) = omega arith in ap (λ k. list_all p (take k (x ∷ xs))) one ∙ both (p x) (list_all p (take (prefix_len p xs) xs)) e h
front_by p x xs false e h = refl

-- the longest front that passes a test passes it
pub front_passes : (p : ℕ → Bool) (xs : List ℕ) → list_all p (take (prefix_len p xs) xs) ≡ true
front_passes p [] = refl
front_passes p (x ∷ xs) = front_by p x xs (p x) refl (front_passes p xs)

pub some_held : (held : List ℕ) (byte : ℕ) → slice_get held 0 ≡ Some byte → 0 < length held
some_held [] byte first = cc
some_held (h ∷ hs) byte first = omega arith

-- a run that begins with a digit has some
pub some_digit : (run held : List ℕ) (byte : ℕ) → take (length run) held ≡ run → 0 < length run → slice_get held 0 ≡ Some byte → is_ascii_digit byte ≡ true → 0 < prefix_len is_ascii_digit run
some_digit [] held byte front some first digit = omega (arith, some)
some_digit (x ∷ xs) [] byte front some first digit = cc
some_digit (x ∷ xs) (h ∷ hs) byte front some first digit =
    let e : h ≡ x = cc in
    let f : h ≡ byte = cc in
    let t : is_ascii_digit x ≡ true = ap is_ascii_digit (sym e ∙ f) ∙ digit in
    omega (arith, ap (λ b. cond b (1 + prefix_len is_ascii_digit xs) 0) t)

length-take-le : (n : ℕ) (xs : List ℕ) → n ≤ length xs → length (take n xs) ≡ n
length-take-le n xs within = omega (arith, length-take n xs)

-- the digits of a run are digits
pub run_digits : (run : List ℕ) (n : ℕ) → n ≡ prefix_len is_ascii_digit run → list_all is_ascii_digit (take n run) ≡ true
run_digits run n is = ap (λ k. list_all is_ascii_digit (take k run)) is ∙ front_passes is_ascii_digit run

-- and the front of what is held
pub run_held : (run held : List ℕ) (n : ℕ) → n ≤ length run → take (length run) held ≡ run → take (length (take n run)) held ≡ take n run
run_held run held n within front =
    ap (λ k. take k held) (length-take-le n run within) ∙ sym (take-take n (length run) held within) ∙ ap (take n) front

-- a cursor that moves on has less to come
pub fewer : (limit' limit offset' offset n : ℕ) → limit' ≡ limit → offset' ≡ offset + n → 0 < n → offset < limit → limit' + 2 - offset' < limit + 2 - offset
fewer limit' limit offset' offset n e f some bound = omega arith
