-- How much of a list a prefix takes, by the front of the list.
use Rattle.std.proofs.Common.{◌≡◌, ℕ, zero, suc, ◌+◌, ◌<◌, ◌≤◌, min, Bool, true, false, cond, nat_eq, List, [], ◌∷◌, length, take, drop, get_or, refl, ap, sym, ◌∙◌, arith, le_refl, take-take, get_or-take, length-drop}
use Rattle.std.specs.Prelude.{if◌then◌else◌}
use Rattle.std.specs.List.{prefix_len, take_while}
use Rattle.std.specs.Char.{is_ascii_digit}
use Rattle.std.proofs.lemmas.List.{drop-take}
use Rattle.std.proofs.lemmas.List.Folds.{length-prefix_len}
use Rattle.std.proofs.lemmas.List.Sums.{prefix_len-le-length}
use Rattle.ctd_command.specs.Integer.{is_minus, sign_len, digits_of, prefix_len_of}

step : (b : Bool) (k m n : ℕ) → m ≡ min k n → cond b (1 + m) 0 ≡ min (suc k) (cond b (1 + n) 0)
step true k m n same = omega arith
step false k m n same = omega arith

-- the prefix of a front
prefix_of_front : (p : ℕ → Bool) (k : ℕ) (xs : List ℕ) → prefix_len p (take k xs) ≡ min k (prefix_len p xs)
prefix_of_front p zero xs = omega arith
prefix_of_front p (suc k) [] = omega arith
prefix_of_front p (suc k) (x ∷ xs) = step (p x) k (prefix_len p (take k xs)) (prefix_len p xs) (prefix_of_front p k xs)

-- two numbers that are the same up to one past the second are the same
same_below : (a b m n : ℕ) → a ≡ min (n + 1) m → b ≡ min (n + 1) n → a ≡ b → m ≡ n
same_below a b m n left right same = omega arith

-- Lists that are the same up to one past the prefix of the second have the same prefix.
pub same_prefix : (p : ℕ → Bool) (ys xs : List ℕ) → take (prefix_len p xs + 1) ys ≡ take (prefix_len p xs + 1) xs → prefix_len p ys ≡ prefix_len p xs
same_prefix p ys xs front =
    let n : ℕ = prefix_len p xs in
    same_below (prefix_len p (take (n + 1) ys)) (prefix_len p (take (n + 1) xs)) (prefix_len p ys) n (prefix_of_front p (n + 1) ys) (prefix_of_front p (n + 1) xs) (ap (prefix_len p) front)

same_while : (p : ℕ → Bool) (ys xs : List ℕ) → take (prefix_len p xs + 1) ys ≡ take (prefix_len p xs + 1) xs → take_while p ys ≡ take_while p xs
same_while p ys xs front =
    let n : ℕ = prefix_len p xs in
    let less : n ≤ n + 1 = omega arith in
    ap (λ k. take k ys) (same_prefix p ys xs front) ∙ sym (take-take n (n + 1) ys less) ∙ ap (take n) front ∙ take-take n (n + 1) xs less

-- The sign and the digits of an integer.
pub same_minus : (n : ℕ) (ys xs : List ℕ) → take (n + 1) ys ≡ take (n + 1) xs → is_minus ys ≡ is_minus xs
same_minus n ys xs front =
    let one : 0 < n + 1 = omega arith in
    ap (λ b. nat_eq b 45) (sym (get_or-take (n + 1) ys 0 0 one) ∙ ap (λ l. get_or l 0 0) front ∙ get_or-take (n + 1) xs 0 0 one)

digits_behind : (k : ℕ) (ys xs : List ℕ) → take (k + length (take_while is_ascii_digit (drop k xs)) + 1) ys ≡ take (k + length (take_while is_ascii_digit (drop k xs)) + 1) xs → take_while is_ascii_digit (drop k ys) ≡ take_while is_ascii_digit (drop k xs)
digits_behind k ys xs front =
    let m : ℕ = prefix_len is_ascii_digit (drop k xs) in
    let long : k + length (take_while is_ascii_digit (drop k xs)) + 1 ≡ k + (m + 1) = omega (arith, length-prefix_len is_ascii_digit (drop k xs)) in
    let same : take (k + (m + 1)) ys ≡ take (k + (m + 1)) xs = ap (λ j. take j ys) (sym long) ∙ front ∙ ap (λ j. take j xs) long in
    same_while is_ascii_digit (drop k ys) (drop k xs) (sym (drop-take k (m + 1) ys) ∙ ap (drop k) same ∙ drop-take k (m + 1) xs)

pub same_digits : (ys xs : List ℕ) → take (prefix_len_of xs + 1) ys ≡ take (prefix_len_of xs + 1) xs → digits_of ys ≡ digits_of xs
same_digits ys xs front =
    let sign : is_minus ys ≡ is_minus xs = same_minus (prefix_len_of xs) ys xs front in
    ap (λ b. take_while is_ascii_digit (drop (if b then 1 else 0) ys)) sign ∙ digits_behind (sign_len xs) ys xs front

-- A prefix is within its list.
sign_within : (b : Bool) (xs : List ℕ) → nat_eq (get_or xs 0 0) 45 ≡ b → (if b then 1 else 0) ≤ length xs
sign_within true [] is = cc
sign_within true (x ∷ xs) is = omega arith
sign_within false xs is = omega arith

pub integer_within : (xs : List ℕ) → prefix_len_of xs ≤ length xs
integer_within xs =
    let sign : sign_len xs ≤ length xs = sign_within (is_minus xs) xs refl in
    let digits : length (digits_of xs) ≤ length (drop (sign_len xs) xs) = omega (arith, length-prefix_len is_ascii_digit (drop (sign_len xs) xs), prefix_len-le-length is_ascii_digit (drop (sign_len xs) xs)) in
    omega (arith, sign, digits, length-drop (sign_len xs) xs)

-- The prefix of a front is no longer than that of the list.
pub less_prefix : (p : ℕ → Bool) (k : ℕ) (xs : List ℕ) → prefix_len p (take k xs) ≤ prefix_len p xs
less_prefix p k xs = omega (arith, prefix_of_front p k xs)

less_while : (k : ℕ) (xs : List ℕ) → length (take_while is_ascii_digit (take k xs)) ≤ length (take_while is_ascii_digit xs)
less_while k xs = omega (arith, length-prefix_len is_ascii_digit (take k xs), length-prefix_len is_ascii_digit xs, less_prefix is_ascii_digit k xs)

less_digits : (minus : Bool) (k : ℕ) (xs : List ℕ) → length (take_while is_ascii_digit (drop (if minus then 1 else 0) (take (suc k) xs))) ≤ length (take_while is_ascii_digit (drop (if minus then 1 else 0) xs))
less_digits true k [] = le_refl 0
less_digits true k (x ∷ xs) = less_while k xs
less_digits false k xs = less_while (suc k) xs

signed : (a b : Bool) (k : ℕ) (xs : List ℕ) → a ≡ b → (if a then 1 else 0) + length (take_while is_ascii_digit (drop (if a then 1 else 0) (take (suc k) xs))) ≤ (if b then 1 else 0) + length (take_while is_ascii_digit (drop (if b then 1 else 0) xs))
signed true true k xs same = omega (arith, less_digits true k xs)
signed true false k xs same = cc
signed false true k xs same = cc
signed false false k xs same = omega (arith, less_digits false k xs)

pub less_integer : (k : ℕ) (xs : List ℕ) → prefix_len_of (take k xs) ≤ prefix_len_of xs
less_integer zero xs = omega arith
less_integer (suc k) xs =
    let one : 0 < suc k = omega arith in
    signed (is_minus (take (suc k) xs)) (is_minus xs) k xs (ap (λ b. nat_eq b 45) (get_or-take (suc k) xs 0 0 one))
