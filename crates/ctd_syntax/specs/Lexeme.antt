-- Tokens as the grammar sees them; words and strings keep their places.
use Rattle.std.specs.Prelude.{ℕ, ℤ, List, [], ◌∷◌, take, drop, ◌-◌, codes, find}
use Rattle.std.specs.Option.{option_map_or}
use Rattle.std.specs.Str.{bytes_eq}
use Rattle.ctd_token.specs.declared.text.Place.{Place}
use Rattle.ctd_token.specs.declared.token.Mark.{Mark}
use Rattle.ctd_syntax.specs.declared.keyword.Keyword.{Keyword}
use Rattle.ctd_syntax.specs.declared.keyword.Keyword.TheVariants as words
use Rattle.ctd_token.specs.declared.token.Token.{Token}
use Rattle.ctd_token.specs.declared.token.TokenKind.{TokenKind}
use Rattle.ctd_token.specs.declared.token.TokenKind.TheVariants as tokens

-- a token: a word or a string with its place, a name, a number, or a mark
pub data Lexeme : Type 0 where
  keyword : (k : Keyword) (place : Place) → Lexeme
  name : (bytes : List ℕ) → Lexeme
  numeral : (n : ℤ) → Lexeme
  text : (bytes : List ℕ) (place : Place) → Lexeme
  mark : (m : Mark) → Lexeme

-- the words that the grammar knows
abbrev pub keywords : List (List ℕ × Keyword)
keywords =
    (codes "SPACE", words.Space) ∷ (codes "NEWLINE", words.Newline) ∷ (codes "EOF", words.Eof) ∷ (codes "INT", words.Int) ∷
    (codes "STRING", words.String) ∷ (codes "REGEX", words.Regex) ∷ (codes "ASSERT", words.Assert) ∷ (codes "SET", words.Set) ∷
    (codes "UNSET", words.Unset) ∷ (codes "REP", words.Rep) ∷ (codes "REPI", words.RepI) ∷ (codes "WHILE", words.While) ∷
    (codes "WHILEI", words.WhileI) ∷ (codes "IF", words.If) ∷ (codes "ELSE", words.Else) ∷ (codes "END", words.End) ∷ (codes "STRLEN", words.Strlen) ∷
    (codes "MATCH", words.Match) ∷ (codes "ISEOF", words.IsEof) ∷ (codes "UNIQUE", words.Unique) ∷ (codes "INARRAY", words.InArray) ∷ []

-- the word that some bytes spell
abbrev pub keyword_of : List ℕ → Keyword
keyword_of w = option_map_or (λ (entry : List ℕ × Keyword). entry.1) (find (λ entry. bytes_eq w entry.0) keywords) words.Unknown

-- the bytes of a token's span
abbrev pub span_of : List ℕ → Token → List ℕ
span_of program t = take (t.after - t.first) (drop t.first program)

-- what the grammar sees of a token of this kind, with its bytes and its place
abbrev pub lexeme_by : TokenKind → List ℕ → Place → Lexeme
lexeme_by tokens.Word span place = keyword (keyword_of span) place
lexeme_by tokens.Name span place = name span
lexeme_by (tokens.Numeral n) span place = numeral n
lexeme_by (tokens.Text bytes) span place = text bytes place
lexeme_by (tokens.Mark m) span place = mark m

-- what the grammar sees of a token of a program
abbrev pub lexeme_of : List ℕ → Token → Lexeme
lexeme_of program t = lexeme_by t.kind (span_of program t) t.place
