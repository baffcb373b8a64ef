-- What reading from the front of a list of tokens gives; for the contracts of private functions alone.
use Rattle.ctd_token.specs.declared.token.TokenKind.TheVariants as tokens
use Rattle.ctd_syntax.specs.declared.parser_token.ParserToken.TheVariants as parser_tokens
use Rattle.std.specs.Prelude.{◌≡◌, ◌-◌, ℕ, List, [], ◌∷◌, ◌++◌, length, Option, Some, None, Result, Ok, Err}
use Rattle.ctd_token.specs.Cut.{TokenOrFault, token_at}
use Rattle.ctd_token.specs.declared.text.Place.{Place}
use Rattle.ctd_token.specs.declared.token.Mark.{Mark}
use Rattle.ctd_token.specs.declared.token.Mark.TheVariants.{Assign}
use Rattle.ctd_token.specs.declared.token.Token.{Token}
use Rattle.ctd_program.specs.Tree.{ExprTree, VarTree, CommandList}
use Rattle.ctd_syntax.specs.Grammar.{IsCommands, IsExpr, IsTarget}
use Rattle.ctd_syntax.specs.Lexeme.{Lexeme, mark, span_of}
use Rattle.ctd_syntax.specs.Nesting.{IsShallow, PassesLimitAt}
use Rattle.ctd_syntax.specs.Reading.{IsCut, IsFirstWrong, lexemes}
use Rattle.ctd_syntax.specs.declared.front.ParseError.{ParseError}
use Rattle.ctd_syntax.specs.declared.front.ParseError.TheVariants.{Syntax, Memory}
use Rattle.ctd_syntax.specs.declared.keyword.Keyword.{Keyword}
use Rattle.ctd_syntax.specs.declared.parser_token.ParserToken.{ParserToken}

-- the string of a token that is one; of any other, and of a fault, the empty one
abbrev pub string_found : TokenOrFault → List ℕ
string_found (Ok (tokens.Text bytes, n)) = bytes
string_found (Ok (tokens.Word, n)) = []
string_found (Ok (tokens.Name, n)) = []
string_found (Ok (tokens.Numeral number, n)) = []
string_found (Ok (tokens.Mark m, n)) = []
string_found (Err fault) = []

-- the string that a literal stands for; other bytes stand for the empty one
abbrev pub string_of : List ℕ → List ℕ
string_of literal = string_found (token_at literal)

-- a string token has the string for which the bytes of its span stand
abbrev pub IsSpelled : List ℕ → Token → Type 0
IsSpelled program t = (bytes : List ℕ) → t.kind ≡ tokens.Text bytes → string_of (span_of program t) ≡ bytes

-- what the grammar sees of a token of the parser
abbrev pub lexeme : ParserToken → Lexeme
lexeme (parser_tokens.Keyword k place) = Lexeme.keyword k place
lexeme (parser_tokens.Name n number) = Lexeme.name n.now
lexeme (parser_tokens.Numeral n) = Lexeme.numeral n
lexeme (parser_tokens.Text number literal place) = Lexeme.text (string_of literal.now) place
lexeme (parser_tokens.Mark m) = Lexeme.mark m

-- the grammar sees this of the tokens of a text
pub record AreLexemes (program : List ℕ) (seen : List Lexeme) : Type 0 where
  pub tokens : List Token
  pub is_cut : IsCut program tokens
  pub same : lexemes program tokens ≡ seen

-- the first prefix of a text's tokens whose weight passes the limit ends with the token behind so many
abbrev pub NestsTooDeep : List ℕ → ℕ → Type 0
NestsTooDeep program before = (ts : List Token) → IsCut program ts → PassesLimitAt (lexemes program ts) before

-- these tokens do not nest too deeply, and spell no program; the first with which none goes on is the first of so many that are left
abbrev pub AreNoProgram : List ℕ → ℕ → List Token → Type 0
AreNoProgram program left ts = IsShallow (lexemes program ts) × ((tree : CommandList) → ¬ (IsCommands (lexemes program ts) tree)) × IsFirstWrong (lexemes program ts) (length ts - left)

-- whatever tokens a text is cut into, this holds of them
abbrev pub SpellsNone : List ℕ → ℕ → Type 0
SpellsNone program left = (ts : List Token) → IsCut program ts → AreNoProgram program left ts

-- which tokens spell which trees
abbrev pub Spelling : Type 0 → Type 1
Spelling T = List Lexeme → T → Type 0

-- which tokens may follow
abbrev pub Following : Type 1
Following = List Lexeme → Type 0

-- whatever follows
abbrev pub Always : Following
Always ts = Unit {0}

-- t is the one tree at the front of the tokens, up to those after it
pub record OneTree {T : Type 0} (Spells : Spelling T) (Ends : Following) (tokens : List Lexeme) (t : T) (after : List Lexeme) : Type 0 where
  pub front : List Lexeme
  pub split : tokens ≡ front ++ after
  pub spells : Spells front t
  pub only : (ts us : List Lexeme) (u : T) → tokens ≡ ts ++ us → Ends us → Spells ts u → (u ≡ t) × (us ≡ after)

-- no tree is at the front of the tokens
abbrev pub NoTree : {T : Type 0} → Spelling T → Following → List Lexeme → Type 0
NoTree {T} Spells Ends tokens = (ts us : List Lexeme) (u : T) → tokens ≡ ts ++ us → Ends us → Spells ts u → ⊥

-- the first of some tokens, or nothing
abbrev pub first_of : List Lexeme → Option Lexeme
first_of [] = None
first_of (t ∷ ts) = Some t

-- the tokens up to those left, and the first of these, say it: it stays so whatever follows
pub record Stays (P : List Lexeme → List Lexeme → Type 0) (tokens left : List Lexeme) : Type 0 where
  pub front : List Lexeme
  pub split : tokens ≡ front ++ left
  pub holds : (others : List Lexeme) → first_of others ≡ first_of left → P (front ++ others) others

-- t is the one tree at the front of the tokens, up to those after it, whatever follows the first of these
abbrev pub HasTree : {T : Type 0} → Spelling T → Following → List Lexeme → T → List Lexeme → Type 0
HasTree Spells Ends tokens t after = Stays (λ ts us. OneTree Spells Ends ts t us) tokens after

-- no tree is at the front of the tokens, whatever follows the first of so many that are left; but one begins with those before
pub record HasNoTree {T : Type 0} (Spells : Spelling T) (Ends : Following) (tokens : List Lexeme) (left : ℕ) : Type 0 where
  pub rest : List Lexeme
  pub counted : length rest ≡ left
  pub known : Stays (λ ts us. NoTree Spells Ends ts) tokens rest
  pub more : List Lexeme
  pub some : T
  pub goes_on : Spells (known.front ++ more) some

-- an error other than for memory tells the first token with which no tree goes on
abbrev pub IsRefusal : {T : Type 0} → Spelling T → Following → ParseError → List Lexeme → Type 0
IsRefusal Spells Ends Memory tokens = Unit {0}
IsRefusal Spells Ends (Syntax left) tokens = HasNoTree Spells Ends tokens left

-- a tree that is read is the one there
abbrev pub FindsTree : {X T : Type 0} → Spelling T → Following → (X → T × List Lexeme) → Result X ParseError → List Lexeme → Type 0
FindsTree Spells Ends view (Ok x) tokens = HasTree Spells Ends tokens (view x).0 (view x).1
FindsTree Spells Ends view (Err e) tokens = IsRefusal Spells Ends e tokens

-- an operator, and the tokens after it
abbrev pub after_operator : {O : Type 0} → Option O → List Lexeme → Option (O × List Lexeme)
after_operator None ts = None
after_operator (Some op) ts = Some (op, ts)

-- the operator at the front, and the tokens after it
abbrev pub operator_at : {O : Type 0} → (Lexeme → Option O) → List Lexeme → Option (O × List Lexeme)
operator_at op [] = None
operator_at op (t ∷ ts) = after_operator (op t) ts

-- the operator that the tokens start with, or none
abbrev pub StartsWith : {O R : Type 0} → (Lexeme → Option O) → (R → List Lexeme) → Option (O × R) → List Lexeme → Type 0
StartsWith op view None tokens = operator_at op tokens ≡ None
StartsWith op view (Some x) tokens = operator_at op tokens ≡ Some (x.0, view x.1)

-- a tree and a mark behind it
abbrev pub IsBefore : {T : Type 0} → Mark → Spelling T → Spelling T
IsBefore end_mark Spells vs a = (ts : List Lexeme) × (vs ≡ ts ++ mark end_mark ∷ []) × Spells ts a

-- a mark and a tree behind it
abbrev pub IsAfter : {T : Type 0} → Mark → Spelling T → Spelling T
IsAfter first Spells vs a = (ts : List Lexeme) × (vs ≡ mark first ∷ ts) × Spells ts a

-- one tree and then another
abbrev pub IsPair : {T U : Type 0} → Spelling T → Spelling U → Spelling (T × U)
IsPair A B ts x = (us : List Lexeme) × (vs : List Lexeme) × (ts ≡ us ++ vs) × A us x.0 × B vs x.1

-- a tree that is built of others
abbrev pub IsBuilt : {T U : Type 0} → (T → U) → Spelling T → Spelling U
IsBuilt {T} f A ts u = (x : T) × (u ≡ f x) × A ts x

-- a tree and a word behind it
abbrev pub IsBeforeWord : {T : Type 0} → Keyword → Spelling T → Spelling T
IsBeforeWord k A vs a = (ts : List Lexeme) × (at : Place) × (vs ≡ ts ++ Lexeme.keyword k at ∷ []) × A ts a

-- one name
abbrev pub IsName : Spelling (List ℕ)
IsName ts n = ts ≡ Lexeme.name n ∷ []

-- a variable, `=` and its value
abbrev pub IsAssignment : Spelling (VarTree × ExprTree)
IsAssignment = IsPair (IsBefore Assign IsTarget) IsExpr
