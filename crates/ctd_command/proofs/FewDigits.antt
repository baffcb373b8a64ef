-- The number of a few digits, one after the other.
use Rattle.std.proofs.Common.{◌≡◌, ◌<◌, ◌≤◌, ℕ, ◌+◌, ◌-◌, ◌*◌, ◌^◌, ◌&&◌, true, false, List, [], ◌∷◌, ◌++◌, length, take, drop, get_or, refl, ap, sym, ◌∙◌, subst, arith, length-drop, length-take, add-one}
use Rattle.std.specs.List.{take_while, prefix_len, list_all}
use Rattle.std.specs.Char.{is_ascii_digit}
use Rattle.std.proofs.lemmas.List.{drop_more, take_more, take-append-drop}
use Rattle.std.proofs.lemmas.List.Folds.{list_all-append, length-prefix_len}
use Rattle.std.proofs.Math.Nat.{pow-suc, pow-le-pow_right}
use Rattle.ctd_command.specs.Integer.{digits_value}
use Rattle.ctd_command.proofs.Decimal.{digits_value-append}
use Rattle.ctd_command.proofs.Integers.{NoDigit, row_while}

-- so many bytes are digits, and this is their number
pub record HasRead (bytes : List ℕ) (count number : ℕ) : Type 0 where
  pub within : count ≤ length bytes
  pub digits : list_all is_ascii_digit (take count bytes) ≡ true
  pub number_is : number ≡ digits_value (take count bytes)
  pub small : number < 10 ^ count

-- none yet
pub read_none : (bytes : List ℕ) → HasRead bytes 0 0
read_none bytes = record { within = omega arith; digits = refl; number_is = refl; small = omega arith }

digit_size : (byte : ℕ) → is_ascii_digit byte ≡ true → byte - 48 ≤ 9
digit_size byte digit = grind arith

-- one more
pub read_more : (bytes : List ℕ) (count next number more : ℕ) → next ≡ count + 1 → count < length bytes → is_ascii_digit (get_or bytes count 0) ≡ true → more ≡ number * 10 + (get_or bytes count 0 - 48) → HasRead bytes count number → HasRead bytes next more
read_more bytes count next number more step some digit is h =
    let byte = get_or bytes count 0 in
    let row : take next bytes ≡ take count bytes ++ byte ∷ [] = ap (λ k. take k bytes) step ∙ take_more bytes count 0 some in
    let power : 10 ^ next ≡ 10 ^ count * 10 = ap (λ n. 10 ^ n) (step ∙ add-one count) ∙ pow-suc 10 count in
    record {
      within = omega (arith, step, some);
      digits = ap (list_all is_ascii_digit) row ∙ list_all-append is_ascii_digit (take count bytes) (byte ∷ []) ∙ ap (λ b. b && (is_ascii_digit byte && true)) h.digits ∙ ap (λ b. b && true) digit;
      number_is = is ∙ ap (λ n. n * 10 + (byte - 48)) h.number_is ∙ sym (ap digits_value row ∙ digits_value-append (take count bytes) byte);
      small = omega (arith, is, h.small, power, digit_size byte digit);
    }

-- and there is room for one more
pub read_fits : (bytes : List ℕ) (count number : ℕ) → length bytes ≤ 19 → count < length bytes → HasRead bytes count number → number < 10 ^ 18
read_fits bytes count number few some h =
    let within : count ≤ 18 = omega (arith, few, some) in
    let power : 10 ^ count ≤ 10 ^ 18 = pow-le-pow_right {n = 10} (omega arith) within in
    omega (arith, h.small, power)

-- where no digit comes next, they are all
read_all : (bytes : List ℕ) (count number : ℕ) → NoDigit (drop count bytes) → HasRead bytes count number → (number ≡ digits_value (take_while is_ascii_digit bytes)) × (count ≡ prefix_len is_ascii_digit bytes)
read_all bytes count number none h =
    let row : take_while is_ascii_digit bytes ≡ take count bytes = ap (take_while is_ascii_digit) (sym (take-append-drop count bytes)) ∙ row_while (take count bytes) (drop count bytes) h.digits none in
    (h.number_is ∙ ap digits_value (sym row), omega (arith, h.within, ap length row, length-take count bytes, length-prefix_len is_ascii_digit bytes))

-- before another byte
pub read_to_byte : (bytes : List ℕ) (count number : ℕ) → count < length bytes → is_ascii_digit (get_or bytes count 0) ≡ false → HasRead bytes count number → (number ≡ digits_value (take_while is_ascii_digit bytes)) × (count ≡ prefix_len is_ascii_digit bytes)
read_to_byte bytes count number some other h =
    let P : List ℕ → Type 0 = λ xs. NoDigit xs in
    read_all bytes count number (subst P (sym (drop_more bytes count 0 some)) other) h

no_digit_in_none : (rest : List ℕ) → length rest < 1 → NoDigit rest
no_digit_in_none [] none = tt
no_digit_in_none (x ∷ xs) none = absurd (omega arith)

-- at the end
pub read_to_end : (bytes : List ℕ) (count number : ℕ) → length bytes ≤ count → HasRead bytes count number → (number ≡ digits_value (take_while is_ascii_digit bytes)) × (count ≡ prefix_len is_ascii_digit bytes)
read_to_end bytes count number end h = read_all bytes count number (no_digit_in_none (drop count bytes) (omega (arith, end, length-drop count bytes))) h
