-- How a text is cut into tokens.
use Rattle.std.specs.Prelude.{◌≡◌, ℕ, ◌+◌, ◌-◌, ◌*◌, ◌||◌, ◌&&◌, Bool, false, nat_eq, nat_le, if◌then◌else◌, List, [], ◌∷◌, Option, Some, None, Result, Ok, Err, get_or, drop, take, length, count_by, codes, pos, ◌^◌, find, zip, option_map}
use Rattle.std.specs.List.{prefix_len, after_last, list_any}
use Rattle.std.specs.Option.{option_map_or}
use Rattle.std.specs.Char.{is_ascii_uppercase, is_ascii_lowercase, is_ascii_digit}
use Rattle.std.specs.Str.{bytes_eq}
use Rattle.ctd_token.specs.declared.text.Place.{Place}
use Rattle.ctd_token.specs.declared.token.TokenKind.{TokenKind}
use Rattle.ctd_token.specs.declared.token.TokenKind.TheVariants as tokens
use Rattle.ctd_token.specs.declared.token.Token.{Token}
use Rattle.ctd_token.specs.declared.fault.LoadKind.{LoadKind}
use Rattle.ctd_token.specs.declared.fault.LoadKind.TheVariants.{BadByte, UnfinishedString, BadOctal, NumberTooLarge, NotInProfile}
use Rattle.ctd_token.specs.declared.token.Mark.{Mark}
use Rattle.ctd_token.specs.declared.token.Mark.TheVariants.{Open, Close, OpenIndex, CloseIndex, Comma, Assign, Plus, Minus, Times, Divide, Percent, Caret, Bang, Less, Greater, AtMost, AtLeast, Equal, Unequal, AndAnd, OrOr}
use Rattle.ctd_token.specs.StringLiteral.{WholeLiteral, literal}

-- the place of an offset of a text: 1 plus the line feeds before it, and 1 plus the bytes since the last of them
abbrev pub place_at : List ℕ → ℕ → Place
place_at text p = record {
  line = 1 + count_by (λ b. nat_eq b 10) (take p text);
  column = 1 + length (after_last (λ b. nat_eq b 10) (take p text));
}

-- space, tab, carriage return and line feed
abbrev pub is_whitespace : ℕ → Bool
is_whitespace b = nat_eq b 32 || nat_eq b 9 || nat_eq b 13 || nat_eq b 10

abbrev mutual
  -- the text behind its blanks and comments; a comment begins with `#`
  pub skip_gap : List ℕ → List ℕ
  skip_gap [] = []
  skip_gap (b ∷ bs) =
      if is_whitespace b then skip_gap bs
      else if nat_eq b 35 then skip_comment bs
      else b ∷ bs

  -- what is left after blanks and comments where the text begins within a comment, which runs up to the next line feed or the end of the
  -- text
  pub skip_comment : List ℕ → List ℕ
  skip_comment [] = []
  skip_comment (b ∷ bs) = if nat_eq b 10 then skip_gap bs else skip_comment bs

-- the marks of one byte, each with its byte
abbrev pub single_marks : List (ℕ × Mark)
single_marks =
    zip (codes "()[],=+-*/%^!<>")
    (Open ∷ Close ∷ OpenIndex ∷ CloseIndex ∷ Comma ∷ Assign ∷ Plus ∷ Minus ∷ Times ∷ Divide ∷ Percent ∷ Caret ∷ Bang ∷ Less ∷ Greater ∷ [])

-- the mark that one byte is
abbrev pub single_mark : ℕ → Option Mark
single_mark b = option_map (λ (m : ℕ × Mark). m.1) (find (λ m. nat_eq b m.0) single_marks)

-- the marks of two bytes, each with its bytes
abbrev pub double_marks : List (List ℕ × Mark)
double_marks =
    zip (codes "<=" ∷ codes ">=" ∷ codes "==" ∷ codes "!=" ∷ codes "&&" ∷ codes "||" ∷ []) (AtMost ∷ AtLeast ∷ Equal ∷ Unequal ∷ AndAnd ∷ OrOr ∷ [])

-- the mark that two bytes are
abbrev pub double_mark : ℕ → ℕ → Option Mark
double_mark a b = option_map (λ (m : List ℕ × Mark). m.1) (find (λ m. bytes_eq (a ∷ b ∷ []) m.0) double_marks)

-- a token and its length, or what is wrong with it
abbrev pub Judgement : Type 0
Judgement = Result (TokenKind × ℕ) LoadKind

-- the words that the profile leaves out
abbrev pub is_left_out_word : List ℕ → Bool
is_left_out_word w = list_any (bytes_eq w) (codes "FLOAT" ∷ codes "FLOATP" ∷ codes "FIXED" ∷ codes "SCIENTIFIC" ∷ [])

-- a word of n letters
abbrev pub word_at : ℕ → List ℕ → Judgement
word_at n bytes = if is_left_out_word (take n bytes) then Err NotInProfile else Ok (tokens.Word, n)

-- how many lower-case letters and digits come first
abbrev pub name_len : List ℕ → ℕ
name_len bytes = prefix_len (λ b. is_ascii_lowercase b || is_ascii_digit b) bytes

-- the number that digits spell: the sum of the digits times powers of ten
abbrev pub digits_value : List ℕ → ℕ
digits_value [] = 0
digits_value (b ∷ bs) = (b - 48) * 10 ^ length bs + digits_value bs

-- two or more digits, of which the first is `0`
abbrev pub has_leading_zero : List ℕ → Bool
has_leading_zero digits = nat_le 2 (length digits) && nat_eq (get_or digits 0 0) 48

-- a fraction or an exponent begins: `.`, `e` or `E`
abbrev pub fraction_begins : List ℕ → Bool
fraction_begins [] = false
fraction_begins (b ∷ bs) = nat_eq b 46 || nat_eq b 101 || nat_eq b 69

-- a numeral of n digits
abbrev pub numeral_at : ℕ → List ℕ → Judgement
numeral_at n bytes =
    if has_leading_zero (take n bytes) || fraction_begins (drop n bytes) then Err NotInProfile
    else if nat_le (2 ^ 127) (digits_value (take n bytes)) then Err NumberTooLarge
    else Ok (tokens.Numeral (pos (digits_value (take n bytes))), n)

-- a mark of two bytes, or else of one; any other byte begins no token
abbrev pub mark_at : ℕ → List ℕ → Judgement
mark_at a [] = option_map_or (λ m. Ok (tokens.Mark m, 1)) (single_mark a) (Err BadByte)
mark_at a (b ∷ bs) = option_map_or (λ m. Ok (tokens.Mark m, 2)) (double_mark a b) (option_map_or (λ m. Ok (tokens.Mark m, 1)) (single_mark a) (Err BadByte))

-- what stands at the front of some bytes: a token and its length, or a fault and how far behind the first byte it is
abbrev pub TokenOrFault : Type 0
TokenOrFault = Result (TokenKind × ℕ) (LoadKind × ℕ)

-- a fault is at the first byte, unless said otherwise
abbrev pub at_first_byte : Judgement → TokenOrFault
at_first_byte (Ok t) = Ok t
at_first_byte (Err kind) = Err (kind, 0)

-- a string after its opening quote: where it is closed, its first octal escape above 255 is a fault, at the backslash
abbrev pub text_at : Option WholeLiteral → TokenOrFault
text_at None = Err (UnfinishedString, 0)
text_at (Some c) = option_map_or (λ n. Err (BadOctal, 1 + n)) c.bad_octal (Ok (tokens.Text c.values, 1 + c.length))

-- the longest token at the front of some bytes and its length, or the fault there
abbrev pub token_at : List ℕ → TokenOrFault
token_at [] = Err (BadByte, 0)
token_at (b ∷ bs) =
    if is_ascii_uppercase b then at_first_byte (word_at (prefix_len is_ascii_uppercase (b ∷ bs)) (b ∷ bs))
    else if is_ascii_lowercase b then Ok (tokens.Name, name_len (b ∷ bs))
    else if is_ascii_digit b then at_first_byte (numeral_at (prefix_len is_ascii_digit (b ∷ bs)) (b ∷ bs))
    else if nat_eq b 34 then text_at (literal 0 bs)
    else at_first_byte (mark_at b bs)

-- the offset of the next token, or of the end
abbrev pub next_token : ℕ → List ℕ → ℕ
next_token at bytes = at + (length bytes - length (skip_gap bytes))

-- the bytes of a text from an offset on are cut into these tokens, with blanks and comments around them
pub data Cuts : (program : List ℕ) (at : ℕ) (bytes : List ℕ) (ts : List Token) → Type 0 where
  none : {program bytes : List ℕ} {at : ℕ} → skip_gap bytes ≡ [] → Cuts program at bytes []
  token : {program bytes : List ℕ} {at n : ℕ} {t : Token} {ts : List Token} →
      token_at (skip_gap bytes) ≡ Ok (t.kind, n) →
      t.first ≡ next_token at bytes → t.after ≡ t.first + n → t.place ≡ place_at program t.first →
      Cuts program t.after (drop n (skip_gap bytes)) ts →
      Cuts program at bytes (t ∷ ts)

-- the first token of these bytes that has a fault has this one, at this offset
pub data Faults : (at : ℕ) (bytes : List ℕ) (kind : LoadKind) (offset : ℕ) → Type 0 where
  here : {at b n : ℕ} {bytes bs : List ℕ} {kind : LoadKind} →
      skip_gap bytes ≡ b ∷ bs → token_at (b ∷ bs) ≡ Err (kind, n) → Faults at bytes kind (next_token at bytes + n)
  later : {at n offset : ℕ} {bytes : List ℕ} {t : TokenKind} {kind : LoadKind} →
      token_at (skip_gap bytes) ≡ Ok (t, n) →
      Faults (next_token at bytes + n) (drop n (skip_gap bytes)) kind offset → Faults at bytes kind offset
