-- An integer that lies whole in a run of held bytes.
use Rattle.std.proofs.Common.{◌≡◌, ◌≢◌, ◌<◌, ◌≤◌, ℕ, suc, ◌+◌, Bool, true, false, nat_eq, List, [], ◌∷◌, ◌++◌, length, take, drop, refl, ap, sym, ◌∙◌, arith, length-drop, length-take, Some, None, Result, Ok, Err, ℤ, cond, not, nat_lt, int_le, get_or, if◌then◌else◌, ◌&&◌}
use mir.Val.{bool_byte}
use Rattle.std.specs.Prelude.{count_by}
use Rattle.std.specs.List.{take_while, prefix_len}
use Rattle.std.specs.Char.{is_ascii_digit}
use Rattle.std.specs.Option.{ok_or}
use Rattle.std.proofs.lemmas.Bool.Decides.{nat_tests}
use Rattle.std.proofs.lemmas.List.{take-append-drop, drop-append-le}
use Rattle.std.proofs.lemmas.List.Folds.{length-prefix_len}
use Rattle.std.proofs.lemmas.List.Sums.{prefix_len-le-length, take_while-cons}
use Rattle.ctd_source.specs.TestData.{TestData, visible, is_newline}
use Rattle.ctd_source.specs.calls.Consistency.{CursorState, IsConsistentWith}
use Rattle.ctd_source.proofs.Visible.{seen_run}
use Rattle.ctd_command.specs.Integer.{digits_value, is_minus, sign_len, digits_of, prefix_len_of, is_zero_first, with_sign, in_interval}
use Rattle.ctd_outcome.specs.declared.reason.Reason.{Reason}
use Rattle.ctd_outcome.specs.declared.reason.Reason.TheVariants.{ExpectedInt, LeadingZero, MinusZero, OutOfRange}
use Rattle.ctd_command.specs.inner.Passing.{IsBufferedInteger}
use Rattle.ctd_command.specs.State.{State, done}
use Rattle.ctd_command.specs.Commands.{integer, decide}
use Rattle.ctd_command.proofs.HeldRuns.{while_within, front_in_line, run_front, held_next}
use Rattle.ctd_command.proofs.Integers.{Passed, integer_seen}

-- the digits after the sign, where they end within the first few bytes
few_digits : (bytes : List ℕ) (m : ℕ) → prefix_len is_ascii_digit (take m (drop (sign_len bytes) bytes)) < length (take m (drop (sign_len bytes) bytes)) → take_while is_ascii_digit (take m (drop (sign_len bytes) bytes)) ≡ digits_of bytes
few_digits bytes m within =
    let unsigned = drop (sign_len bytes) bytes in
    sym (while_within is_ascii_digit (take m unsigned) (drop m unsigned) within) ∙ ap (take_while is_ascii_digit) (take-append-drop m unsigned)

-- a sign as a number of bytes
pub sign_bytes : (b : Bool) → bool_byte b ≡ (if b then 1 else 0)
sign_bytes true = refl
sign_bytes false = refl

first_by : (b : Bool) (x : ℕ) (xs : List ℕ) → is_zero_first (cond b (x ∷ xs) []) ≡ true → x ≡ 48
first_by true x xs zero = grind (arith, nat_tests)
first_by false x xs zero = cc

-- where the first digit is 0, the first byte is
first_zero : (xs : List ℕ) → is_zero_first (take_while is_ascii_digit xs) ≡ true → get_or xs 0 0 ≡ 48
first_zero [] zero = cc
first_zero (x ∷ xs) zero = first_by (is_ascii_digit x) x (take_while is_ascii_digit xs) (ap is_zero_first (sym (take_while-cons is_ascii_digit x xs)) ∙ zero)

-- digits in their form are judged by their value alone
judged_by_value : (zero negative : Bool) (n : ℕ) (judged : Result ℤ Reason) → n ≢ 0 → (zero ≡ true → (negative ≡ false) × (n ≡ 1))
    → (if nat_eq n 0 then Err ExpectedInt else if zero && not negative && nat_lt 1 n then Err LeadingZero else if zero && negative then Err MinusZero else judged) ≡ judged
judged_by_value true true n judged some form = let e : true ≡ false = (form refl).0 in cc
judged_by_value true false n judged some form = ap (λ k. if nat_eq k 0 then Err ExpectedInt else if nat_lt 1 k then Err LeadingZero else judged) (form refl).1
judged_by_value false negative n judged some form =
    let digits : nat_eq n 0 ≡ false = grind (arith, nat_tests) in
    ap (λ b. if b then Err ExpectedInt else judged) digits

-- an integer in its form whose digits end within the first few bytes
pub in_front : (bytes few : List ℕ) (value : ℤ) (negative : Bool) (sign m number count : ℕ) → negative ≡ is_minus bytes → sign ≡ (if negative then 1 else 0) → few ≡ take m (drop sign bytes) → number ≡ digits_value (take_while is_ascii_digit few) → count ≡ prefix_len is_ascii_digit few → count ≢ length few
    → count ≢ 0 → (get_or few 0 0 ≡ 48 → (negative ≡ false) × (count ≡ 1)) → value ≡ with_sign negative number → IsBufferedInteger bytes value (sign + count)
in_front bytes few value negative sign m number count is_negative is_sign is_few is_number is_count ends some form is_value =
    let unsigned = drop (sign_len bytes) bytes in
    let same_sign : sign ≡ sign_len bytes = is_sign ∙ ap (λ b. if b then 1 else 0) is_negative in
    let same : few ≡ take m unsigned = is_few ∙ ap (λ k. take m (drop k bytes)) same_sign in
    let within : prefix_len is_ascii_digit (take m unsigned) < length (take m unsigned) = omega (arith, prefix_len-le-length is_ascii_digit few, is_count, ends, ap length same, ap (prefix_len is_ascii_digit) same) in
    let row : take_while is_ascii_digit few ≡ digits_of bytes = ap (take_while is_ascii_digit) same ∙ few_digits bytes m within in
    let len : length (digits_of bytes) ≡ count = ap length (sym row) ∙ length-prefix_len is_ascii_digit few ∙ sym is_count in
    let in_form : is_zero_first (digits_of bytes) ≡ true → (is_minus bytes ≡ false) × (length (digits_of bytes) ≡ 1) =
    λ zero. let f = form (first_zero few (ap is_zero_first row ∙ zero)) in (sym is_negative ∙ f.0, len ∙ f.1) in
    let value_is : with_sign (is_minus bytes) (digits_value (digits_of bytes)) ≡ value = sym (is_value ∙ ap (λ b. with_sign b number) is_negative ∙ ap (with_sign (is_minus bytes)) (is_number ∙ ap digits_value row)) in
    record {
      len = omega (arith, same_sign, len);
      ends = omega (arith, same_sign, len, is_count, within, ap (prefix_len is_ascii_digit) same, length-take m unsigned, length-drop (sign_len bytes) bytes);
      judged = λ least most. judged_by_value (is_zero_first (digits_of bytes)) (is_minus bytes) (length (digits_of bytes)) _ (omega (arith, len, some)) in_form ∙ ap (λ z. ok_or (in_interval least most z) OutOfRange) value_is;
    }

-- a digit ends no line
digit_in_line : (x : ℕ) → is_ascii_digit x ≡ true → is_newline x ≡ false
digit_in_line x digit = grind (arith, nat_tests)

row_in_line : (xs : List ℕ) → count_by is_newline (take (length (take_while is_ascii_digit xs)) xs) ≡ 0
row_in_line xs = ap (λ k. count_by is_newline (take k xs)) (length-prefix_len is_ascii_digit xs) ∙ front_in_line is_ascii_digit digit_in_line xs

minus_in_line : (x : ℕ) (xs : List ℕ) → nat_eq x 45 ≡ true → count_by is_newline xs ≡ 0 → count_by is_newline (x ∷ xs) ≡ 0
minus_in_line x xs is none = let same : x ≡ 45 = grind (arith, nat_tests) in ap (λ y. count_by is_newline (y ∷ xs)) same ∙ none

sign_in_line : (b : Bool) (x : ℕ) (xs : List ℕ) → nat_eq x 45 ≡ b
    → count_by is_newline (take ((if b then 1 else 0) + length (take_while is_ascii_digit (drop (if b then 1 else 0) (x ∷ xs)))) (x ∷ xs)) ≡ 0
sign_in_line true x xs is =
    let one : 1 + length (take_while is_ascii_digit xs) ≡ suc (length (take_while is_ascii_digit xs)) = omega arith in
    ap (λ k. count_by is_newline (take k (x ∷ xs))) one ∙ minus_in_line x (take (length (take_while is_ascii_digit xs)) xs) is (row_in_line xs)
sign_in_line false x xs is =
    let none : 0 + length (take_while is_ascii_digit (x ∷ xs)) ≡ length (take_while is_ascii_digit (x ∷ xs)) = omega arith in
    ap (λ k. count_by is_newline (take k (x ∷ xs))) none ∙ row_in_line (x ∷ xs)

prefix_in_line : (bytes : List ℕ) → count_by is_newline (take (prefix_len_of bytes) bytes) ≡ 0
prefix_in_line [] = refl
prefix_in_line (x ∷ xs) = sign_in_line (nat_eq x 45) x xs refl

-- an integer at the front of a run that is held is in one line
pub integer_in_line : (run held : List ℕ) (value : ℤ) (size : ℕ) → take (length run) held ≡ run → IsBufferedInteger run value size → count_by is_newline (take size held) ≡ 0
integer_in_line run held value size front f =
    let within : size ≤ length run = omega (arith, f.ends) in
    ap (count_by is_newline) (run_front run held size within front ∙ ap (λ k. take k run) f.len) ∙ prefix_in_line run

same_minus : (bytes more : List ℕ) → 0 < length bytes → is_minus (bytes ++ more) ≡ is_minus bytes
same_minus [] more some = absurd (omega arith)
same_minus (x ∷ xs) more some = refl

sign_within : (b : Bool) → (if b then 1 else 0) ≤ 1
sign_within true = omega arith
sign_within false = omega arith

-- its sign and its digits are those of all that is visible
front_passed : (run : List ℕ) (value : ℤ) (size : ℕ) (d : TestData) (p q r : ℕ) → IsBufferedInteger run value size → visible d p ≡ run ++ visible d r → q ≡ p + size → Passed d p q (is_minus run) (digits_of run)
front_passed run value size d p q r f seen there =
    let more = visible d r in
    let unsigned = drop (sign_len run) run in
    let minus : is_minus (visible d p) ≡ is_minus run = ap is_minus seen ∙ same_minus run more (omega (arith, f.ends)) in
    let row : length (digits_of run) ≡ prefix_len is_ascii_digit unsigned = length-prefix_len is_ascii_digit unsigned in
    let sign : sign_len run ≤ length run = omega (arith, f.ends, sign_within (is_minus run)) in
    let ends : prefix_len is_ascii_digit unsigned < length unsigned = omega (arith, f.len, f.ends, row, length-drop (sign_len run) run) in
    let digits : digits_of (visible d p) ≡ digits_of run =
    ap (λ xs. take_while is_ascii_digit (drop (if is_minus xs then 1 else 0) xs)) seen
    ∙ ap (λ b. take_while is_ascii_digit (drop (if b then 1 else 0) (run ++ more))) (same_minus run more (omega (arith, f.ends)))
    ∙ ap (take_while is_ascii_digit) (drop-append-le (sign_len run) run more sign)
    ∙ while_within is_ascii_digit unsigned more ends in
    record {
      minus = minus;
      digits = digits;
      end = let same : sign_len (visible d p) ≡ sign_len run = ap (λ b. if b then 1 else 0) minus in omega (arith, there, f.len, same, ap length digits);
    }

within_interval : (least most value : ℤ) → int_le least value ≡ true → int_le value most ≡ true → ok_or (in_interval least most value) OutOfRange ≡ Ok value
within_interval least most value above below =
    ap (λ b. ok_or (if b && int_le value most then Some value else None) OutOfRange) above ∙ ap (λ b. ok_or (if b then Some value else None) OutOfRange) below

-- a cursor that passed it did what INT does
pub front_read : (least most : ℤ) (run : List ℕ) (value : ℤ) (size : ℕ) (d : TestData) (s : State) (old new : CursorState) → IsBufferedInteger run value size → int_le least value ≡ true → int_le value most ≡ true → IsConsistentWith d old → IsConsistentWith d new
    → old.taken ≡ old.spot.offset + length old.held → new.taken ≡ new.spot.offset + length new.held → take (length run) old.held ≡ run → length run ≤ length old.held → (0 < length run → old.spot.offset + length run ≤ old.limit)
    → s.offset ≡ old.spot.offset → new.spot.offset ≡ old.spot.offset + size → new.held ≡ drop size old.held → new.limit ≡ old.limit
    → integer least most d s ≡ done value (record { offset = new.spot.offset; store = s.store; mode = s.mode })
front_read least most run value size d s old new f above below before after counted_old counted_new front held within here there left limit =
    let limited : old.spot.offset + length run ≤ old.limit = within (omega (arith, f.ends)) in
    let seen : visible d s.offset ≡ run ++ visible d (old.spot.offset + length run) = ap (visible d) here ∙ seen_run d old run before counted_old front held limited in
    let passed : Passed d s.offset new.spot.offset (is_minus run) (digits_of run) = front_passed run value size d s.offset new.spot.offset (old.spot.offset + length run) f seen (there ∙ ap (λ p. p + size) (sym here)) in
    let some : 0 < length new.held = omega (arith, ap length left, length-drop size old.held, f.ends, held) in
    integer_seen least most d s new.spot.offset (is_minus run) (digits_of run) _ passed (held_next d new after counted_new some (omega (arith, there, limit, limited, f.ends)))
    ∙ ap (λ r. decide r d (record { offset = new.spot.offset; store = s.store; mode = s.mode })) (f.judged least most ∙ within_interval least most value above below)
