-- Names, numerals and strings at the front of a text, and alone.
use Rattle.std.proofs.Common.{◌≡◌, ℕ, zero, suc, ◌<◌, ◌≤◌, ◌^◌, Bool, cond, nat_eq, nat_le, ◌||◌, List, [], ◌∷◌, ◌++◌, length, take, drop, ℤ, pos, Option, Some, None, Result, Ok, Err, true, false, refl, sym, ap, ◌∙◌, subst, arith, tests, append-nil, get_or, get_or-take}
use Rattle.std.specs.List.{prefix_len}
use lib.IntN.{neg_ℤ, ◌-ℤ◌}
use mir.Syntax.{w128}
use mir.Val.{SFits, to_z, of_z}
use Rattle.std.proofs.lemmas.Int.{ints}
use Rattle.std.proofs.lemmas.List.Folds.{prefix_len-append, length-prefix_len}
use Rattle.std.proofs.lemmas.List.Sums.{prefix_len-le-length, prefix_len_is, prefix_len_passes}
use Rattle.std.proofs.Math.Seq.{take-append_seam, drop-append_seam}
use Rattle.ctd_token.specs.declared.fault.LoadKind.TheVariants.{BadByte, NumberTooLarge, NotInProfile}
use Rattle.ctd_token.specs.declared.token.Mark.{Mark}
use Rattle.ctd_token.specs.declared.token.TokenKind.{TokenKind}
use Rattle.ctd_token.specs.declared.token.TokenKind.TheVariants as tokens
use Rattle.ctd_token.specs.StringLiteral.{WholeLiteral, literal}
use Rattle.std.specs.Char.{is_ascii_uppercase, is_ascii_lowercase, is_ascii_digit}
use Rattle.ctd_token.specs.Cut.{Judgement, TokenOrFault, at_first_byte, is_left_out_word, word_at, name_len, digits_value, has_leading_zero, fraction_begins, numeral_at, mark_at, single_mark, double_mark, text_at, token_at}
use Rattle.ctd_token.specs.calls.Scanning.{wrong}
use Rattle.ctd_token.specs.inner.Scanning.{mark_or, closed_text}
use Rattle.ctd_program.specs.Presets.{IsToken}
use Rattle.ctd_program.specs.inner.PresetFront.{negative_literal}
use Rattle.ctd_token.proofs.TokenFaults.{token_some}

-- what a name, a numeral or a string at the front of b ∷ bs is
abbrev Known : ℕ → List ℕ → TokenOrFault → Type 0
Known b bs (Ok (tokens.Name, n)) = (is_ascii_lowercase b ≡ true) × (n ≡ name_len (b ∷ bs))
Known b bs (Ok (tokens.Numeral m, n)) = (is_ascii_digit b ≡ true) × (numeral_at (prefix_len is_ascii_digit (b ∷ bs)) (b ∷ bs) ≡ Ok (tokens.Numeral m, n))
Known b bs (Ok (tokens.Text values, n)) = (b ≡ 34) × (text_at (literal 0 bs) ≡ Ok (tokens.Text values, n))
Known b bs _ = Unit {0}

by_test : (P : TokenOrFault → Type 0) (t : Bool) (x y : TokenOrFault) → (t ≡ true → P x) → P y → P (cond t x y)
by_test P true x y p q = p refl
by_test P false x y p q = q

known_word : (b : ℕ) (bs : List ℕ) (left_out : Bool) (n : ℕ) → Known b bs (at_first_byte (cond left_out (Err NotInProfile) (Ok (tokens.Word, n))))
known_word b bs true n = tt
known_word b bs false n = tt

-- a numeral of n digits that spell m
abbrev judged : (wrong large : Bool) (m n : ℕ) → Judgement
judged wrong large m n = cond wrong (Err NotInProfile) (cond large (Err NumberTooLarge) (Ok (tokens.Numeral (pos m), n)))

known_numeral : (b : ℕ) (bs : List ℕ) (wrong large : Bool) (m n : ℕ) → is_ascii_digit b ≡ true → numeral_at (prefix_len is_ascii_digit (b ∷ bs)) (b ∷ bs) ≡ judged wrong large m n → Known b bs (at_first_byte (judged wrong large m n))
known_numeral b bs true large m n digit is = tt
known_numeral b bs false true m n digit is = tt
known_numeral b bs false false m n digit is = (digit, is)

known_closed : (b : ℕ) (bs : List ℕ) (c : WholeLiteral) (bad : Option ℕ) → b ≡ 34 → text_at (literal 0 bs) ≡ closed_text c bad → Known b bs (closed_text c bad)
known_closed b bs c None quote is = (quote, is)
known_closed b bs c (Some n) quote is = tt

known_text : (b : ℕ) (bs : List ℕ) (o : Option WholeLiteral) → b ≡ 34 → literal 0 bs ≡ o → Known b bs (text_at o)
known_text b bs None quote is = tt
known_text b bs (Some c) quote is = known_closed b bs c c.bad_octal quote (ap text_at is)

known_mark : (b : ℕ) (bs : List ℕ) (m : Option Mark) (n : ℕ) (other : Judgement) → Known b bs (at_first_byte other) → Known b bs (at_first_byte (mark_or m n other))
known_mark b bs None n other p = p
known_mark b bs (Some m) n other p = tt

known_marks : (b : ℕ) (bs cs : List ℕ) → Known b bs (at_first_byte (mark_at b cs))
known_marks b bs [] = known_mark b bs (single_mark b) 1 (Err BadByte) tt
known_marks b bs (c ∷ cs) = known_mark b bs (double_mark b c) 2 (mark_or (single_mark b) 1 (Err BadByte)) (known_mark b bs (single_mark b) 1 (Err BadByte) tt)

known : (b : ℕ) (bs : List ℕ) → Known b bs (token_at (b ∷ bs))
known b bs =
    let all : List ℕ = b ∷ bs in
    let n : ℕ = prefix_len is_ascii_digit all in
    let name : TokenOrFault = Ok (tokens.Name, name_len all) in
    let word : Judgement = word_at (prefix_len is_ascii_uppercase all) all in
    let numeral : Judgement = numeral_at n all in
    let text : TokenOrFault = text_at (literal 0 bs) in
    let mark : TokenOrFault = at_first_byte (mark_at b bs) in
    let by_quote : TokenOrFault = cond (nat_eq b 34) text mark in
    let by_digit : TokenOrFault = cond (is_ascii_digit b) (at_first_byte numeral) by_quote in
    let by_lower : TokenOrFault = cond (is_ascii_lowercase b) name by_digit in
    let from_quote : Known b bs by_quote = by_test (Known b bs) (nat_eq b 34) text mark (λ is. known_text b bs (literal 0 bs) (grind (arith, tests, is)) refl) (known_marks b bs bs) in
    let from_digit : Known b bs by_digit = by_test (Known b bs) (is_ascii_digit b) (at_first_byte numeral) by_quote (λ is. known_numeral b bs (has_leading_zero (take n all) || fraction_begins (drop n all)) (nat_le (2 ^ 127) (digits_value (take n all))) (digits_value (take n all)) n is refl) from_quote in
    let from_lower : Known b bs by_lower = by_test (Known b bs) (is_ascii_lowercase b) name by_digit (λ is. (is, refl)) from_digit in
    by_test (Known b bs) (is_ascii_uppercase b) (at_first_byte word) by_lower (λ _. known_word b bs (is_left_out_word (take (prefix_len is_ascii_uppercase all) all)) (prefix_len is_ascii_uppercase all)) from_lower

pub known_of : (b : ℕ) (bs : List ℕ) (found : TokenOrFault) → token_at (b ∷ bs) ≡ found → Known b bs found
known_of b bs found is = subst (Known b bs) is (known b bs)

pub same_found : {A E : Type 0} (x y : A) (n m : ℕ) (found : Result (A × ℕ) E) → found ≡ Ok (x, n) → found ≡ Ok (y, m) → (x ≡ y) × (n ≡ m)
same_found {A} x y n m found e f =
    let pair : (x, n) ≡ (y, m) = cc in
    let first : A × ℕ → A = λ q. q.0 in
    let second : A × ℕ → ℕ = λ q. q.1 in
    (ap first pair, ap second pair)

same_number : (m n : ℤ) → tokens.Numeral m ≡ tokens.Numeral n → m ≡ n
same_number m n e = cc

small_numeral : (wrong large : Bool) (k n : ℕ) (m : ℤ) (len : ℕ) → large ≡ nat_le (2 ^ 127) k → judged wrong large k n ≡ Ok (tokens.Numeral m, len) → (m ≡ pos k) × (k < 2 ^ 127) × (n ≡ len)
small_numeral true large k n m len is e = absurd (let f : Err NotInProfile ≡ Ok (tokens.Numeral m, len) = e in cc)
small_numeral false true k n m len is e = absurd (let f : Err NumberTooLarge ≡ Ok (tokens.Numeral m, len) = e in cc)
small_numeral false false k n m len is e =
    let same = same_found (tokens.Numeral m) (tokens.Numeral (pos k)) len n (judged false false k n) e refl in
    (same_number m (pos k) same.0, grind (arith, tests, is), sym same.1)

-- a numeral at the front is a number in the range
pub numeral_value : (bytes : List ℕ) (m : ℤ) (len : ℕ) → token_at bytes ≡ Ok (tokens.Numeral m, len) → (k : ℕ) × (m ≡ pos k) × (k < 2 ^ 127)
numeral_value [] m len is = absurd (let f : wrong BadByte 0 ≡ Ok (tokens.Numeral m, len) = is in cc)
numeral_value (b ∷ bs) m len is =
    let all : List ℕ = b ∷ bs in
    let n : ℕ = prefix_len is_ascii_digit all in
    let of = known_of b bs (Ok (tokens.Numeral m, len)) is in
    let small = small_numeral (has_leading_zero (take n all) || fraction_begins (drop n all)) (nat_le (2 ^ 127) (digits_value (take n all))) (digits_value (take n all)) n m len refl of.1 in
    (digits_value (take n all), small.0, small.1)

-- a number in the range has a negative
pub negative_fits : (n : ℤ) (k : ℕ) → n ≡ pos k → k < 2 ^ 127 → SFits w128 (pos 0 -ℤ to_z w128 (of_z w128 n))
negative_fits n k is lt = omega (arith, ints)

pub negative_is : (n : ℤ) (k : ℕ) → n ≡ pos k → k < 2 ^ 127 → to_z w128 (of_z w128 (pos 0 -ℤ to_z w128 (of_z w128 n))) ≡ neg_ℤ n
negative_is n k is lt = omega (arith, ints)

pub not_negated : (kind : TokenKind) (n : ℕ) → ((m : ℤ) → kind ≡ tokens.Numeral m → ⊥) → negative_literal (Ok (kind, n)) ≡ None
not_negated (tokens.Numeral m) n other = absurd (other m refl)
not_negated tokens.Word n other = refl
not_negated tokens.Name n other = refl
not_negated (tokens.Text values) n other = refl
not_negated (tokens.Mark m) n other = refl

-- a run that is all of xs ends there, where nothing of it is behind
run_on : (p : ℕ → Bool) (xs ys : List ℕ) → prefix_len p xs ≡ length xs → prefix_len p ys ≡ 0 → prefix_len p (xs ++ ys) ≡ length xs
run_on p xs ys whole none = grind (arith, tests, prefix_len-append p xs ys)

-- a run alone
run_alone : (p : ℕ → Bool) (xs : List ℕ) (n : ℕ) → n ≡ prefix_len p xs → (prefix_len p (take n xs) ≡ length (take n xs)) × (length (take n xs) ≡ n)
run_alone p xs n is =
    let long : length (take n xs) ≡ n = ap (λ k. length (take k xs)) is ∙ length-prefix_len p xs ∙ sym is in
    let within : n ≤ length xs = omega (arith, is, prefix_len-le-length p xs) in
    let passes : (k : ℕ) → k < length (take n xs) → p (get_or (take n xs) k 0) ≡ true = λ k lt. ap p (get_or-take n xs k 0 (omega (arith, lt, long))) ∙ prefix_len_passes p xs k 0 (omega (arith, lt, long, is)) in
    (prefix_len_is p (take n xs) (length (take n xs)) 0 (omega arith) passes (λ lt. absurd (omega (arith, lt))), long)

name_found : (b : ℕ) (bs : List ℕ) → is_ascii_lowercase b ≡ true → token_at (b ∷ bs) ≡ Ok (tokens.Name, name_len (b ∷ bs))
name_found b bs low =
    let all : List ℕ = b ∷ bs in
    let up : is_ascii_uppercase b ≡ false = grind (arith, tests, low) in
    let name : TokenOrFault = Ok (tokens.Name, name_len all) in
    let word : TokenOrFault = at_first_byte (word_at (prefix_len is_ascii_uppercase all) all) in
    let other : TokenOrFault = cond (is_ascii_digit b) (at_first_byte (numeral_at (prefix_len is_ascii_digit all) all)) (cond (nat_eq b 34) (text_at (literal 0 bs)) (at_first_byte (mark_at b bs))) in
    ap (λ t. cond t word (cond (is_ascii_lowercase b) name other)) up ∙ ap (λ t. cond t name other) low

numeral_found : (b : ℕ) (bs : List ℕ) → is_ascii_digit b ≡ true → token_at (b ∷ bs) ≡ at_first_byte (numeral_at (prefix_len is_ascii_digit (b ∷ bs)) (b ∷ bs))
numeral_found b bs digit =
    let all : List ℕ = b ∷ bs in
    let up : is_ascii_uppercase b ≡ false = grind (arith, tests, digit) in
    let low : is_ascii_lowercase b ≡ false = grind (arith, tests, digit) in
    let name : TokenOrFault = Ok (tokens.Name, name_len all) in
    let word : TokenOrFault = at_first_byte (word_at (prefix_len is_ascii_uppercase all) all) in
    let numeral : TokenOrFault = at_first_byte (numeral_at (prefix_len is_ascii_digit all) all) in
    let other : TokenOrFault = cond (nat_eq b 34) (text_at (literal 0 bs)) (at_first_byte (mark_at b bs)) in
    ap (λ t. cond t word (cond (is_ascii_lowercase b) name (cond (is_ascii_digit b) numeral other))) up
    ∙ ap (λ t. cond t name (cond (is_ascii_digit b) numeral other)) low
    ∙ ap (λ t. cond t numeral other) digit

pub no_token : (t : TokenKind) (n : ℕ) → token_at [] ≡ Ok (t, n) → ⊥
no_token t n is = let f : wrong BadByte 0 ≡ Ok (t, n) = is in cc

-- a name before what is no part of it
pub name_front : (text rest : List ℕ) → IsToken text tokens.Name → name_len rest ≡ 0 → token_at (text ++ rest) ≡ Ok (tokens.Name, length text)
name_front [] rest is none = absurd (no_token tokens.Name 0 is)
name_front (b ∷ bs) rest is none =
    let of = known_of b bs (Ok (tokens.Name, length (b ∷ bs))) is in
    name_found b (bs ++ rest) of.0 ∙ ap (λ n. Ok (tokens.Name, n)) (run_on (λ c. is_ascii_lowercase c || is_ascii_digit c) (b ∷ bs) rest (sym of.1) none)

-- a name by itself
pub name_alone : (bytes : List ℕ) (n : ℕ) → token_at bytes ≡ Ok (tokens.Name, n) → IsToken (take n bytes) tokens.Name
name_alone [] n is = absurd (no_token tokens.Name n is)
name_alone (b ∷ bs) zero is = absurd (omega (arith, token_some (b ∷ bs) tokens.Name 0 is))
name_alone (b ∷ bs) (suc n) is =
    let of = known_of b bs (Ok (tokens.Name, suc n)) is in
    let run = run_alone (λ c. is_ascii_lowercase c || is_ascii_digit c) (b ∷ bs) (suc n) of.1 in
    name_found b (take n bs) of.0 ∙ ap (λ k. Ok (tokens.Name, k)) run.0

-- a numeral of these digits and of what is behind it
abbrev numeral_of : ℕ → List ℕ → Bool → Judgement
numeral_of n digits more = judged (has_leading_zero digits || more) (nat_le (2 ^ 127) (digits_value digits)) (digits_value digits) n

numeral_whole : (text rest : List ℕ) → fraction_begins rest ≡ false → numeral_at (length text) (text ++ rest) ≡ numeral_of (length text) text false
numeral_whole text rest ends =
    ap (λ l. numeral_of (length text) l (fraction_begins (drop (length text) (text ++ rest)))) (take-append_seam text rest)
    ∙ ap (λ l. numeral_of (length text) text (fraction_begins l)) (drop-append_seam text rest)
    ∙ ap (numeral_of (length text) text) ends

numeral_length : (b : ℕ) (bs : List ℕ) (m : ℤ) (n : ℕ) → numeral_at (prefix_len is_ascii_digit (b ∷ bs)) (b ∷ bs) ≡ Ok (tokens.Numeral m, n) → prefix_len is_ascii_digit (b ∷ bs) ≡ n
numeral_length b bs m len is =
    let all : List ℕ = b ∷ bs in
    let n : ℕ = prefix_len is_ascii_digit all in
    (small_numeral (has_leading_zero (take n all) || fraction_begins (drop n all)) (nat_le (2 ^ 127) (digits_value (take n all))) (digits_value (take n all)) n m len refl is).2

-- a numeral before what is no part of it
pub numeral_front : (text rest : List ℕ) (m : ℤ) → IsToken text (tokens.Numeral m) → fraction_begins rest ≡ false → prefix_len is_ascii_digit rest ≡ 0 → token_at (text ++ rest) ≡ Ok (tokens.Numeral m, length text)
numeral_front [] rest m is ends none = absurd (no_token (tokens.Numeral m) 0 is)
numeral_front (b ∷ bs) rest m is ends none =
    let text : List ℕ = b ∷ bs in
    let of = known_of b bs (Ok (tokens.Numeral m, length text)) is in
    let long : prefix_len is_ascii_digit text ≡ length text = numeral_length b bs m (length text) of.1 in
    let longer : prefix_len is_ascii_digit (text ++ rest) ≡ length text = run_on is_ascii_digit text rest long none in
    let alone : numeral_at (length text) text ≡ numeral_of (length text) text false = ap (numeral_at (length text)) (sym (append-nil text)) ∙ numeral_whole text [] refl in
    numeral_found b (bs ++ rest) of.0
    ∙ ap (λ n. at_first_byte (numeral_at n (text ++ rest))) longer
    ∙ ap at_first_byte (numeral_whole text rest ends ∙ sym alone ∙ ap (λ n. numeral_at n text) (sym long) ∙ of.1)

plain_digits : (zero more large : Bool) (k n : ℕ) (m : ℤ) (len : ℕ) → judged (zero || more) large k n ≡ Ok (tokens.Numeral m, len) → judged (zero || false) large k n ≡ Ok (tokens.Numeral m, len)
plain_digits true more large k n m len is = is
plain_digits false true large k n m len is = absurd (let f : Err NotInProfile ≡ Ok (tokens.Numeral m, len) = is in cc)
plain_digits false false large k n m len is = is

-- a numeral by itself
pub numeral_alone : (bytes : List ℕ) (n : ℕ) (m : ℤ) → token_at bytes ≡ Ok (tokens.Numeral m, n) → IsToken (take n bytes) (tokens.Numeral m)
numeral_alone [] n m is = absurd (no_token (tokens.Numeral m) n is)
numeral_alone (b ∷ bs) zero m is = absurd (omega (arith, token_some (b ∷ bs) (tokens.Numeral m) 0 is))
numeral_alone (b ∷ bs) (suc n) m is =
    let all : List ℕ = b ∷ bs in
    let text : List ℕ = b ∷ take n bs in
    let of = known_of b bs (Ok (tokens.Numeral m, suc n)) is in
    let long : prefix_len is_ascii_digit all ≡ suc n = numeral_length b bs m (suc n) of.1 in
    let run = run_alone is_ascii_digit all (suc n) (sym long) in
    let found : numeral_of (suc n) text (fraction_begins (drop n bs)) ≡ Ok (tokens.Numeral m, suc n) = ap (λ k. numeral_at k all) (sym long) ∙ of.1 in
    let clean : numeral_of (suc n) text false ≡ Ok (tokens.Numeral m, suc n) = plain_digits (has_leading_zero text) (fraction_begins (drop n bs)) (nat_le (2 ^ 127) (digits_value text)) (digits_value text) (suc n) m (suc n) found in
    let alone : numeral_at (length text) text ≡ numeral_of (length text) text false = ap (numeral_at (length text)) (sym (append-nil text)) ∙ numeral_whole text [] refl in
    numeral_found b (take n bs) of.0
    ∙ ap (λ k. at_first_byte (numeral_at k text)) run.0
    ∙ ap at_first_byte (alone ∙ ap (λ k. numeral_of k text false) run.1 ∙ clean ∙ ap (λ k. Ok (tokens.Numeral m, k)) (sym run.1))
