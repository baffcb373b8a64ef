-- That a token has some bytes, and which faults it may have.
use Rattle.std.proofs.Common.{◌≡◌, ℕ, ◌+◌, ◌<◌, ◌≤◌, ◌^◌, Bool, cond, nat_eq, nat_le, ◌||◌, List, [], ◌∷◌, length, take, drop, pos, Option, Some, None, Ok, Err, true, false, refl, sym, ap, ◌∙◌, subst, inl, inr, arith}
use Rattle.std.specs.List.{prefix_len}
use Rattle.ctd_token.specs.declared.limits.TheConstants.{PROGRAM_LIMIT}
use Rattle.ctd_token.specs.declared.text.Place.{Place}
use Rattle.ctd_token.specs.declared.token.Mark.{Mark}
use Rattle.ctd_token.specs.declared.token.TokenKind.{TokenKind}
use Rattle.ctd_token.specs.declared.token.TokenKind.TheVariants as tokens
use Rattle.ctd_token.specs.declared.token.Token.{Token}
use Rattle.ctd_token.specs.declared.fault.LoadKind.{LoadKind}
use Rattle.ctd_token.specs.declared.fault.LoadKind.TheVariants.{ProgramTooLong, BadByte, UnfinishedString, BadOctal, NumberTooLarge, NotInProfile, TooDeep, Syntax, BadPattern, Read, Memory}
use Rattle.ctd_token.specs.StringLiteral.{WholeLiteral, literal}
use Rattle.std.specs.Char.{is_ascii_uppercase, is_ascii_lowercase, is_ascii_digit}
use Rattle.ctd_token.specs.Cut.{Judgement, TokenOrFault, at_first_byte, is_left_out_word, word_at, name_len, digits_value, has_leading_zero, fraction_begins, numeral_at, mark_at, single_mark, double_mark, text_at, skip_gap, token_at, next_token, place_at}
use Rattle.ctd_token.specs.calls.Scanning.{wrong}
use Rattle.ctd_token.specs.inner.Scanning.{mark_or, closed_text}
use Rattle.ctd_token.specs.calls.Lexing.{Uncut, left, IsNextFault, IsLexFault}
use Rattle.ctd_token.specs.Lexing.{HasFault}
use Rattle.ctd_token.proofs.Cutting.{Cutting, first_fault}

-- a token may have this fault
abbrev IsTokenKind : LoadKind → Type 0
IsTokenKind BadByte = Unit {0}
IsTokenKind UnfinishedString = Unit {0}
IsTokenKind BadOctal = Unit {0}
IsTokenKind NumberTooLarge = Unit {0}
IsTokenKind NotInProfile = Unit {0}
IsTokenKind _ = ⊥

-- a token has some bytes, and a fault is one of a token
abbrev JudgedWell : Judgement → Type 0
JudgedWell (Ok (t, n)) = 0 < n
JudgedWell (Err kind) = IsTokenKind kind

abbrev FoundWell : TokenOrFault → Type 0
FoundWell (Ok (t, n)) = 0 < n
FoundWell (Err (kind, n)) = IsTokenKind kind

judged_if : (t : Bool) (x y : Judgement) → JudgedWell x → JudgedWell y → JudgedWell (cond t x y)
judged_if true x y p q = p
judged_if false x y p q = q

found_if : (t : Bool) (x y : TokenOrFault) → (t ≡ true → FoundWell x) → FoundWell y → FoundWell (cond t x y)
found_if true x y p q = p refl
found_if false x y p q = q

run_some : (p : ℕ → Bool) (b : ℕ) (bs : List ℕ) → p b ≡ true → 0 < prefix_len p (b ∷ bs)
run_some p b bs is =
    let more : prefix_len p (b ∷ bs) ≡ 1 + prefix_len p bs = ap (λ t. cond t (1 + prefix_len p bs) 0) is in
    omega arith

name_some : (b : ℕ) (bs : List ℕ) → is_ascii_lowercase b ≡ true → 0 < name_len (b ∷ bs)
name_some b bs is = run_some (λ c. is_ascii_lowercase c || is_ascii_digit c) b bs (ap (λ t. t || is_ascii_digit b) is)

first_well : (j : Judgement) → JudgedWell j → FoundWell (at_first_byte j)
first_well (Ok t) p = p
first_well (Err kind) p = p

mark_well : (m : Option Mark) (n : ℕ) (other : Judgement) → 0 < n → JudgedWell other → JudgedWell (mark_or m n other)
mark_well None n other some p = p
mark_well (Some m) n other some p = some

marks_well : (a : ℕ) (bs : List ℕ) → JudgedWell (mark_at a bs)
marks_well a [] = mark_well (single_mark a) 1 (Err BadByte) (omega arith) tt
marks_well a (b ∷ bs) = mark_well (double_mark a b) 2 (mark_or (single_mark a) 1 (Err BadByte)) (omega arith) (mark_well (single_mark a) 1 (Err BadByte) (omega arith) tt)

closed_well : (c : WholeLiteral) (o : Option ℕ) → FoundWell (closed_text c o)
closed_well c None = omega arith
closed_well c (Some n) = tt

text_well : (o : Option WholeLiteral) → FoundWell (text_at o)
text_well None = tt
text_well (Some c) = closed_well c c.bad_octal

word_well : (b : ℕ) (bs : List ℕ) → is_ascii_uppercase b ≡ true → JudgedWell (word_at (prefix_len is_ascii_uppercase (b ∷ bs)) (b ∷ bs))
word_well b bs is =
    let n : ℕ = prefix_len is_ascii_uppercase (b ∷ bs) in
    judged_if (is_left_out_word (take n (b ∷ bs))) (Err NotInProfile) (Ok (tokens.Word, n)) tt (run_some is_ascii_uppercase b bs is)

numeral_well : (b : ℕ) (bs : List ℕ) → is_ascii_digit b ≡ true → JudgedWell (numeral_at (prefix_len is_ascii_digit (b ∷ bs)) (b ∷ bs))
numeral_well b bs is =
    let n : ℕ = prefix_len is_ascii_digit (b ∷ bs) in
    let digits : List ℕ = take n (b ∷ bs) in
    let fits : Judgement = Ok (tokens.Numeral (pos (digits_value digits)), n) in
    let judged : Judgement = cond (nat_le (2 ^ 127) (digits_value digits)) (Err NumberTooLarge) fits in
    judged_if (has_leading_zero digits || fraction_begins (drop n (b ∷ bs))) (Err NotInProfile) judged tt (judged_if (nat_le (2 ^ 127) (digits_value digits)) (Err NumberTooLarge) fits tt (run_some is_ascii_digit b bs is))

pub token_well : (bytes : List ℕ) → FoundWell (token_at bytes)
token_well [] = tt
token_well (b ∷ bs) =
    let all : List ℕ = b ∷ bs in
    let name : TokenOrFault = Ok (tokens.Name, name_len all) in
    let word : Judgement = word_at (prefix_len is_ascii_uppercase all) all in
    let numeral : Judgement = numeral_at (prefix_len is_ascii_digit all) all in
    let text : TokenOrFault = text_at (literal 0 bs) in
    let mark : TokenOrFault = at_first_byte (mark_at b bs) in
    let by_quote : TokenOrFault = cond (nat_eq b 34) text mark in
    let by_digit : TokenOrFault = cond (is_ascii_digit b) (at_first_byte numeral) by_quote in
    let by_lower : TokenOrFault = cond (is_ascii_lowercase b) name by_digit in
    let from_quote : FoundWell by_quote = found_if (nat_eq b 34) text mark (λ _. text_well (literal 0 bs)) (first_well (mark_at b bs) (marks_well b bs)) in
    let from_digit : FoundWell by_digit = found_if (is_ascii_digit b) (at_first_byte numeral) by_quote (λ is. first_well numeral (numeral_well b bs is)) from_quote in
    let from_lower : FoundWell by_lower = found_if (is_ascii_lowercase b) name by_digit (λ is. name_some b bs is) from_digit in
    found_if (is_ascii_uppercase b) (at_first_byte word) by_lower (λ is. first_well word (word_well b bs is)) from_lower

pub token_some : (bytes : List ℕ) (t : TokenKind) (n : ℕ) → token_at bytes ≡ Ok (t, n) → 0 < n
token_some bytes t n e = subst FoundWell e (token_well bytes)

token_kind : (bytes : List ℕ) (kind : LoadKind) (n : ℕ) → token_at bytes ≡ wrong kind n → IsTokenKind kind
token_kind bytes kind n e = subst FoundWell e (token_well bytes)

lex_fault : (text : List ℕ) (kind : LoadKind) (place : Option Place) → IsTokenKind kind → HasFault text kind place → IsLexFault text kind place
lex_fault text BadByte place p h = h
lex_fault text UnfinishedString place p h = h
lex_fault text BadOctal place p h = h
lex_fault text NumberTooLarge place p h = h
lex_fault text NotInProfile place p h = h
lex_fault text ProgramTooLong place p h = absurd p
lex_fault text TooDeep place p h = absurd p
lex_fault text Syntax place p h = absurd p
lex_fault text BadPattern place p h = absurd p
lex_fault text Read place p h = absurd p
lex_fault text Memory place p h = absurd p

-- the fault of the next token is the text's
pub fault_is : (text : List ℕ) (ts : List Token) (u : Uncut) (kind : LoadKind) (place : Option Place) → length text ≤ PROGRAM_LIMIT → Cutting text ts u → IsNextFault u kind place → IsLexFault text kind place
fault_is text ts u kind place short c (inl has) =
    let is : place ≡ Some (place_at text (next_token u.at (left u) + has.behind)) = has.place_is ∙ ap (λ l. Some (place_at l (next_token u.at (left u) + has.behind))) c.text_is in
    lex_fault text kind place (token_kind (skip_gap (left u)) kind has.behind has.found)
    (record { short = short; offset = next_token u.at (left u) + has.behind; first = first_fault text ts u kind has.behind c has.some has.found; place_is = is })
fault_is text ts u kind place short c (inr (out, none)) = subst (λ k. IsLexFault text k place) (sym out) none
