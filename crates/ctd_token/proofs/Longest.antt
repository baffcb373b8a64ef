-- A token is the longest prefix of its form.
use Rattle.std.proofs.Common.{◌≡◌, ℕ, zero, suc, ◌+◌, ◌≤◌, ◌<◌, ◌^◌, Bool, true, false, ◌||◌, cond, nat_eq, nat_le, List, [], ◌∷◌, ◌++◌, length, take, drop, get_or, Option, Some, None, IsSome, is_some, Ok, Err, pos, refl, sym, ap, ◌∙◌, subst, arith}
use Rattle.std.specs.List.{prefix_len}
use Rattle.std.proofs.lemmas.Bool.{eqb-true}
use Rattle.std.proofs.lemmas.List.{get_or-take, take-append-drop, length-take-le}
use Rattle.std.proofs.lemmas.List.Elements.{All-get_or, All-from_get_or}
use Rattle.std.proofs.lemmas.List.Sums.{prefix_len-le-length, prefix_len_passes, prefix_len_stops}
use Rattle.std.proofs.lemmas.List.Folds.{length-prefix_len}
use Rattle.ctd_token.specs.declared.fault.LoadKind.TheVariants.{BadByte, NotInProfile, NumberTooLarge}
use Rattle.ctd_token.specs.declared.token.TokenKind.{TokenKind}
use Rattle.ctd_token.specs.declared.token.TokenKind.TheVariants as tokens
use Rattle.ctd_token.specs.declared.token.Mark.{Mark}
use Rattle.ctd_token.specs.StringLiteral.{WholeLiteral, literal}
use Rattle.std.specs.Char.{is_ascii_uppercase, is_ascii_lowercase, is_ascii_digit}
use Rattle.ctd_token.specs.Cut.{TokenOrFault, at_first_byte, is_left_out_word, word_at, name_len, digits_value, has_leading_zero, fraction_begins, numeral_at, single_mark, double_mark, mark_at, text_at, token_at}
use Rattle.ctd_token.specs.inner.Scanning.{mark_or, closed_text}
use Rattle.ctd_token.specs.calls.Form.{Form, word, name, numeral, text, mark, form_of, mark_of, IsLiteral, IsRow, HasForm, IsLongestPrefix}
use Rattle.ctd_token.proofs.LiteralEnds.{closes_within, literal-append, literal-take}

-- the bytes that pass a test at the front are a row, and no longer prefix is one
row_at : (p : ℕ → Bool) (bytes : List ℕ) → 0 < prefix_len p bytes → IsRow (λ b. p b ≡ true) (take (prefix_len p bytes) bytes)
row_at p bytes some =
    let n = prefix_len p bytes in
    let len : length (take n bytes) ≡ n = length-prefix_len p bytes in
    record {
      some = omega (arith, len, some);
      each = All-from_get_or (λ b. p b ≡ true) (take n bytes) 0 (λ i lt.
          let short : i < n = omega (arith, lt, len) in
          ap p (get_or-take n bytes i 0 short) ∙ prefix_len_passes p bytes i 0 short);
    }

row_ends : (p : ℕ → Bool) (bytes : List ℕ) (m : ℕ) → prefix_len p bytes < m → m ≤ length bytes → ¬ (IsRow (λ b. p b ≡ true) (take m bytes))
row_ends p bytes m longer within row =
    let n = prefix_len p bytes in
    let len : length (take m bytes) ≡ m = length-take-le m bytes within in
    let passes : p (get_or (take m bytes) n 0) ≡ true = All-get_or (λ b. p b ≡ true) (take m bytes) n 0 (omega (arith, len, longer)) row.each in
    let stops : p (get_or bytes n 0) ≡ false = prefix_len_stops p bytes 0 (omega (arith, longer, within)) in
    let both : true ≡ false = sym passes ∙ ap p (get_or-take m bytes n 0 longer) ∙ stops in
    cc

-- a byte that passes is in the row
row_begins : (p : ℕ → Bool) (b : ℕ) (bs : List ℕ) → p b ≡ true → 0 < prefix_len p (b ∷ bs)
row_begins p b bs passes =
    let is : prefix_len p (b ∷ bs) ≡ 1 + prefix_len p bs = ap (λ t. cond t (1 + prefix_len p bs) 0) passes in
    omega (arith, is)

-- a token of n bytes
abbrev a_token : TokenKind → ℕ → TokenOrFault
a_token kind n = Ok (kind, n)

-- what is found is told in one way
is_found : (x k : TokenKind) (n m : ℕ) (bytes : List ℕ) → a_token x n ≡ a_token k m → IsLongestPrefix (form_of x) n bytes → IsLongestPrefix (form_of k) m bytes
is_found x k n m bytes e longest =
    let pair : (x, n) ≡ (k, m) = cc in
    let P : TokenKind × ℕ → Type 0 = λ q. IsLongestPrefix (form_of q.0) q.1 bytes in
    subst P pair longest

module _ (b : ℕ) (bs : List ℕ) where
  row_longest : (p : ℕ → Bool) (form : Form) → p b ≡ true
      → (IsRow (λ c. p c ≡ true) (take (prefix_len p (b ∷ bs)) (b ∷ bs)) → HasForm form (take (prefix_len p (b ∷ bs)) (b ∷ bs)))
      → ((bytes : List ℕ) → HasForm form bytes → IsRow (λ c. p c ≡ true) bytes)
      → IsLongestPrefix form (prefix_len p (b ∷ bs)) (b ∷ bs)
  row_longest p form begins has is_row = record {
    within = prefix_len-le-length p (b ∷ bs);
    has_form = has (row_at p (b ∷ bs) (row_begins p b bs begins));
    longest = λ m longer within has_it. row_ends p (b ∷ bs) m longer within (is_row (take m (b ∷ bs)) has_it);
  }

  name_begins : is_ascii_lowercase b ≡ true → is_ascii_lowercase b || is_ascii_digit b ≡ true
  name_begins lower = ap (λ t. t || is_ascii_digit b) lower

  name_longest : is_ascii_lowercase b ≡ true → IsLongestPrefix name (name_len (b ∷ bs)) (b ∷ bs)
  name_longest lower =
      let some = row_begins (λ c. is_ascii_lowercase c || is_ascii_digit c) b bs (name_begins lower) in
      row_longest (λ c. is_ascii_lowercase c || is_ascii_digit c) name (name_begins lower)
      (λ row. (ap is_ascii_lowercase (get_or-take (name_len (b ∷ bs)) (b ∷ bs) 0 0 some) ∙ lower, row))
      (λ _ has. has.1)

  word_found : (k : TokenKind) (n : ℕ) → is_ascii_uppercase b ≡ true → (left_out : Bool)
      → at_first_byte (cond left_out (Err NotInProfile) (Ok (tokens.Word, prefix_len is_ascii_uppercase (b ∷ bs)))) ≡ a_token k n → IsLongestPrefix (form_of k) n (b ∷ bs)
  word_found k n upper true e = absurd (let never : ⊥ = cc in never)
  word_found k n upper false e = is_found tokens.Word k (prefix_len is_ascii_uppercase (b ∷ bs)) n (b ∷ bs) e (row_longest is_ascii_uppercase word upper (λ row. row) (λ _ row. row))

  in_range : (k : TokenKind) (n : ℕ) (z : ℕ) → is_ascii_digit b ≡ true → (large : Bool)
      → at_first_byte (cond large (Err NumberTooLarge) (Ok (tokens.Numeral (pos z), prefix_len is_ascii_digit (b ∷ bs)))) ≡ a_token k n → IsLongestPrefix (form_of k) n (b ∷ bs)
  in_range k n z digit true e = absurd (let never : ⊥ = cc in never)
  in_range k n z digit false e = is_found (tokens.Numeral (pos z)) k (prefix_len is_ascii_digit (b ∷ bs)) n (b ∷ bs) e (row_longest is_ascii_digit numeral digit (λ row. row) (λ _ row. row))

  numeral_found : (k : TokenKind) (n : ℕ) (z : ℕ) → is_ascii_digit b ≡ true → (left_out large : Bool)
      → at_first_byte (cond left_out (Err NotInProfile) (cond large (Err NumberTooLarge) (Ok (tokens.Numeral (pos z), prefix_len is_ascii_digit (b ∷ bs))))) ≡ a_token k n → IsLongestPrefix (form_of k) n (b ∷ bs)
  numeral_found k n z digit true large e = absurd (let never : ⊥ = cc in never)
  numeral_found k n z digit false large e = in_range k n z digit large e

-- no longer prefix is a literal
text_ends : (bs : List ℕ) (c : WholeLiteral) → literal 0 bs ≡ Some c → (m : ℕ) → 1 + c.length < m → m ≤ length (34 ∷ bs) → ¬ (IsLiteral (take m (34 ∷ bs)))
text_ends bs c reads zero longer within found = omega (arith, longer)
text_ends bs c reads (suc m) longer within found =
    let after : found.after ≡ take m bs = let both : 34 ∷ take m bs ≡ 34 ∷ found.after = found.opens in cc in
    let closes : literal 0 (take m bs) ≡ Some found.closed = ap (literal 0) (sym after) ∙ found.closes in
    let whole : literal 0 bs ≡ Some found.closed = ap (literal 0) (sym (take-append-drop m bs)) ∙ literal-append 0 (take m bs) (drop m bs) found.closed closes in
    let same : Some c ≡ Some found.closed = sym reads ∙ whole in
    let is : c ≡ found.closed = cc in
    let len : c.length ≡ found.closed.length = ap (λ x. x.length) is in
    let full : length (take m bs) ≡ m = length-take-le m bs (omega (arith, within)) in
    let ends : found.closed.length ≡ length (take m bs) = found.whole ∙ ap length after in
    omega (arith, longer, len, full, ends)

text_longest : (bs : List ℕ) (c : WholeLiteral) → literal 0 bs ≡ Some c → IsLongestPrefix text (1 + c.length) (34 ∷ bs)
text_longest bs c reads =
    let inside = closes_within 0 bs c reads in
    let next : 1 + c.length ≡ suc c.length = omega arith in
    record {
      within = omega (arith, inside.within);
      has_form = record {
        after = take c.length bs;
        closed = c;
        opens = ap (λ m. take m (34 ∷ bs)) next;
        closes = literal-take 0 c.length bs c (omega arith) reads;
        whole = sym (length-take-le c.length bs inside.within);
      };
      longest = text_ends bs c reads;
    }

text_closed : (bs : List ℕ) (c : WholeLiteral) (k : TokenKind) (n : ℕ) → literal 0 bs ≡ Some c → (bad : Option ℕ) → closed_text c bad ≡ a_token k n → IsLongestPrefix (form_of k) n (34 ∷ bs)
text_closed bs c k n reads (Some at) e = absurd (let never : ⊥ = cc in never)
text_closed bs c k n reads None e = is_found (tokens.Text c.values) k (1 + c.length) n (34 ∷ bs) e (text_longest bs c reads)

text_found : (bs : List ℕ) (k : TokenKind) (n : ℕ) (o : Option WholeLiteral) → literal 0 bs ≡ o → text_at o ≡ a_token k n → IsLongestPrefix (form_of k) n (34 ∷ bs)
text_found bs k n None reads e = absurd (let never : ⊥ = cc in never)
text_found bs k n (Some c) reads e = text_closed bs c k n reads c.bad_octal e

-- a mark has one byte or two
mark_is_short : (bytes : List ℕ) → IsSome (mark_of bytes) → length bytes ≤ 2
mark_is_short [] some = omega arith
mark_is_short (a ∷ []) some = omega arith
mark_is_short (a ∷ b ∷ []) some = omega arith
mark_is_short (a ∷ b ∷ c ∷ more) some = absurd (let never : ⊥ = cc in never)

-- no prefix of more than two bytes is a mark
long_is_no_mark : (bytes : List ℕ) (m : ℕ) → 2 < m → m ≤ length bytes → ¬ (IsSome (mark_of (take m bytes)))
long_is_no_mark bytes m longer within some = omega (arith, mark_is_short (take m bytes) some, length-take-le m bytes within, longer)

double_longest : (a b : ℕ) (bs : List ℕ) (x : Mark) → double_mark a b ≡ Some x → IsLongestPrefix mark 2 (a ∷ b ∷ bs)
double_longest a b bs x is = record {
  within = omega arith;
  has_form = ap is_some is;
  longest = long_is_no_mark (a ∷ b ∷ bs);
}

single_ends : (a b : ℕ) (bs : List ℕ) → double_mark a b ≡ None → (m : ℕ) → 1 < m → m ≤ length (a ∷ b ∷ bs) → ¬ (IsSome (mark_of (take m (a ∷ b ∷ bs))))
single_ends a b bs none m longer within some =
    let short = mark_is_short (take m (a ∷ b ∷ bs)) some in
    let two : m ≡ 2 = omega (arith, short, length-take-le m (a ∷ b ∷ bs) within, longer) in
    let P : ℕ → Type 0 = λ k. IsSome (mark_of (take k (a ∷ b ∷ bs))) in
    let is_mark : is_some (double_mark a b) ≡ true = subst P two some in
    let both : false ≡ true = sym (ap is_some none) ∙ is_mark in
    cc

single_longest : (a b : ℕ) (bs : List ℕ) (x : Mark) → double_mark a b ≡ None → single_mark a ≡ Some x → IsLongestPrefix mark 1 (a ∷ b ∷ bs)
single_longest a b bs x none is = record {
  within = omega arith;
  has_form = ap is_some is;
  longest = single_ends a b bs none;
}

lone_longest : (a : ℕ) (x : Mark) → single_mark a ≡ Some x → IsLongestPrefix mark 1 (a ∷ [])
lone_longest a x is = record {
  within = omega arith;
  has_form = ap is_some is;
  longest = λ m longer within. absurd (omega (arith, longer, within));
}

lone_found : (a : ℕ) (k : TokenKind) (n : ℕ) (o : Option Mark) → single_mark a ≡ o → at_first_byte (mark_or o 1 (Err BadByte)) ≡ a_token k n → IsLongestPrefix (form_of k) n (a ∷ [])
lone_found a k n None is e = absurd (let never : ⊥ = cc in never)
lone_found a k n (Some x) is e = is_found (tokens.Mark x) k 1 n (a ∷ []) e (lone_longest a x is)

single_found : (a b : ℕ) (bs : List ℕ) (k : TokenKind) (n : ℕ) → double_mark a b ≡ None → (o : Option Mark) → single_mark a ≡ o
    → at_first_byte (mark_or o 1 (Err BadByte)) ≡ a_token k n → IsLongestPrefix (form_of k) n (a ∷ b ∷ bs)
single_found a b bs k n none None is e = absurd (let never : ⊥ = cc in never)
single_found a b bs k n none (Some x) is e = is_found (tokens.Mark x) k 1 n (a ∷ b ∷ bs) e (single_longest a b bs x none is)

double_found : (a b : ℕ) (bs : List ℕ) (k : TokenKind) (n : ℕ) (o : Option Mark) → double_mark a b ≡ o
    → at_first_byte (mark_or o 2 (mark_or (single_mark a) 1 (Err BadByte))) ≡ a_token k n → IsLongestPrefix (form_of k) n (a ∷ b ∷ bs)
double_found a b bs k n None is e = single_found a b bs k n is (single_mark a) refl e
double_found a b bs k n (Some x) is e = is_found (tokens.Mark x) k 2 n (a ∷ b ∷ bs) e (double_longest a b bs x is)

mark_found : (a : ℕ) (bs : List ℕ) (k : TokenKind) (n : ℕ) → at_first_byte (mark_at a bs) ≡ a_token k n → IsLongestPrefix (form_of k) n (a ∷ bs)
mark_found a [] k n e = lone_found a k n (single_mark a) refl e
mark_found a (b ∷ bs) k n e = double_found a b bs k n (double_mark a b) refl e

-- the tests of the first byte, one after the other
quote_or_mark : (b : ℕ) (bs : List ℕ) (k : TokenKind) (n : ℕ) (quote : Bool) → nat_eq b 34 ≡ quote
    → cond quote (text_at (literal 0 bs)) (at_first_byte (mark_at b bs)) ≡ a_token k n → IsLongestPrefix (form_of k) n (b ∷ bs)
quote_or_mark b bs k n true is e =
    let same : b ≡ 34 = eqb-true b 34 is in
    subst (λ c. IsLongestPrefix (form_of k) n (c ∷ bs)) (sym same) (text_found bs k n (literal 0 bs) refl e)
quote_or_mark b bs k n false is e = mark_found b bs k n e

digit_or_more : (b : ℕ) (bs : List ℕ) (k : TokenKind) (n : ℕ) (digit : Bool) → is_ascii_digit b ≡ digit
    → cond digit (at_first_byte (numeral_at (prefix_len is_ascii_digit (b ∷ bs)) (b ∷ bs))) (cond (nat_eq b 34) (text_at (literal 0 bs)) (at_first_byte (mark_at b bs))) ≡ a_token k n → IsLongestPrefix (form_of k) n (b ∷ bs)
digit_or_more b bs k n true is e =
    let digits = take (prefix_len is_ascii_digit (b ∷ bs)) (b ∷ bs) in
    numeral_found b bs k n (digits_value digits) is (has_leading_zero digits || fraction_begins (drop (prefix_len is_ascii_digit (b ∷ bs)) (b ∷ bs))) (nat_le (2 ^ 127) (digits_value digits)) e
digit_or_more b bs k n false is e = quote_or_mark b bs k n (nat_eq b 34) refl e

lower_or_more : (b : ℕ) (bs : List ℕ) (k : TokenKind) (n : ℕ) (lower : Bool) → is_ascii_lowercase b ≡ lower
    → cond lower (a_token tokens.Name (name_len (b ∷ bs))) (cond (is_ascii_digit b) (at_first_byte (numeral_at (prefix_len is_ascii_digit (b ∷ bs)) (b ∷ bs))) (cond (nat_eq b 34) (text_at (literal 0 bs)) (at_first_byte (mark_at b bs)))) ≡ a_token k n → IsLongestPrefix (form_of k) n (b ∷ bs)
lower_or_more b bs k n true is e = is_found tokens.Name k (name_len (b ∷ bs)) n (b ∷ bs) e (name_longest b bs is)
lower_or_more b bs k n false is e = digit_or_more b bs k n (is_ascii_digit b) refl e

upper_or_more : (b : ℕ) (bs : List ℕ) (k : TokenKind) (n : ℕ) (upper : Bool) → is_ascii_uppercase b ≡ upper
    → cond upper (at_first_byte (word_at (prefix_len is_ascii_uppercase (b ∷ bs)) (b ∷ bs))) (cond (is_ascii_lowercase b) (a_token tokens.Name (name_len (b ∷ bs))) (cond (is_ascii_digit b) (at_first_byte (numeral_at (prefix_len is_ascii_digit (b ∷ bs)) (b ∷ bs))) (cond (nat_eq b 34) (text_at (literal 0 bs)) (at_first_byte (mark_at b bs))))) ≡ a_token k n
    → IsLongestPrefix (form_of k) n (b ∷ bs)
upper_or_more b bs k n true is e = word_found b bs k n is (is_left_out_word (take (prefix_len is_ascii_uppercase (b ∷ bs)) (b ∷ bs))) e
upper_or_more b bs k n false is e = lower_or_more b bs k n (is_ascii_lowercase b) refl e

pub token_is_longest : (bytes : List ℕ) (k : TokenKind) (n : ℕ) → token_at bytes ≡ a_token k n → IsLongestPrefix (form_of k) n bytes
token_is_longest [] k n e = absurd (let never : ⊥ = cc in never)
token_is_longest (b ∷ bs) k n e = upper_or_more b bs k n (is_ascii_uppercase b) refl e

-- a string is found again where only its own bytes are left
pub string_again : (bytes values : List ℕ) (n : ℕ) → token_at bytes ≡ Ok (tokens.Text values, n) → token_at (take n bytes) ≡ Ok (tokens.Text values, n)
string_again bytes values n e =
    let has : IsLiteral (take n bytes) = (token_is_longest bytes (tokens.Text values) n e).has_form in
    let rest : List ℕ = drop n bytes in
    let split : bytes ≡ 34 ∷ has.after ++ rest = sym (take-append-drop n bytes) ∙ ap (λ l. l ++ rest) has.opens in
    let alone : token_at (take n bytes) ≡ text_at (Some has.closed) = ap token_at has.opens ∙ ap text_at has.closes in
    let among : token_at bytes ≡ text_at (Some has.closed) = ap token_at split ∙ ap text_at (literal-append 0 has.after rest has.closed has.closes) in
    alone ∙ sym among ∙ e
