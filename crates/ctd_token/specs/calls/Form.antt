-- The forms of tokens, and the longest prefix of a form.
use Rattle.ctd_token.specs.declared.token.TokenKind.TheVariants as tokens
use Rattle.std.specs.Prelude.{◌≡◌, ◌<◌, ◌≤◌, ℕ, ◌||◌, true, List, [], ◌∷◌, Option, Some, None, IsSome, length, take, get_or, All}
use Rattle.ctd_token.specs.declared.token.TokenKind.{TokenKind}
use Rattle.ctd_token.specs.declared.token.Mark.{Mark}
use Rattle.std.specs.Char.{is_ascii_uppercase, is_ascii_lowercase, is_ascii_digit}
use Rattle.ctd_token.specs.Cut.{single_mark, double_mark}
use Rattle.ctd_token.specs.StringLiteral.{WholeLiteral, literal}

-- the five forms
pub data Form : Type 0 where
  word : Form
  name : Form
  numeral : Form
  text : Form
  mark : Form

-- the form of a token
abbrev pub form_of : TokenKind → Form
form_of tokens.Word = word
form_of tokens.Name = name
form_of (tokens.Numeral n) = numeral
form_of (tokens.Text bytes) = text
form_of (tokens.Mark m) = mark

-- the mark that these bytes are
abbrev pub mark_of : List ℕ → Option Mark
mark_of [] = None
mark_of (a ∷ []) = single_mark a
mark_of (a ∷ b ∷ []) = double_mark a b
mark_of (a ∷ b ∷ c ∷ more) = None

-- a string literal with its quotes: an opening quote, and parts up to the closing quote at the end
pub record IsLiteral (bytes : List ℕ) : Type 0 where
  pub after : List ℕ
  pub closed : WholeLiteral
  pub opens : bytes ≡ 34 ∷ after
  pub closes : literal 0 after ≡ Some closed
  pub whole : closed.length ≡ length after

-- one or more bytes, all of a kind
pub record IsRow (P : ℕ → Type 0) (bytes : List ℕ) : Type 0 where
  pub some : 0 < length bytes
  pub each : All P bytes

-- these bytes have a form: `[A-Z]+`, `[a-z][a-z0-9]*`, `[0-9]+`, a string literal, or one of the marks
abbrev pub HasForm : Form → List ℕ → Type 0
HasForm word bytes = IsRow (λ b. is_ascii_uppercase b ≡ true) bytes
HasForm name bytes = (is_ascii_lowercase (get_or bytes 0 0) ≡ true) × IsRow (λ b. is_ascii_lowercase b || is_ascii_digit b ≡ true) bytes
HasForm numeral bytes = IsRow (λ b. is_ascii_digit b ≡ true) bytes
HasForm text bytes = IsLiteral bytes
HasForm mark bytes = IsSome (mark_of bytes)

-- the first n bytes are the longest prefix that has this form
pub record IsLongestPrefix (form : Form) (n : ℕ) (bytes : List ℕ) : Type 0 where
  pub within : n ≤ length bytes
  pub has_form : HasForm form (take n bytes)
  pub longest : (m : ℕ) → n < m → m ≤ length bytes → ¬ (HasForm form (take m bytes))
