-- What reading the text of a program gives.
use Rattle.std.specs.Prelude.{◌≡◌, ◌+◌, ◌<◌, ◌≤◌, ℕ, List, [], ◌∷◌, ◌++◌, length, take, slice_get, map, option_map, Option, Some, None}
use Rattle.ctd_token.specs.declared.text.Place.{Place}
use Rattle.ctd_token.specs.declared.token.Token.{Token}
use Rattle.ctd_token.specs.declared.fault.LoadKind.{LoadKind}
use Rattle.ctd_token.specs.declared.fault.LoadKind.TheVariants.{ProgramTooLong, TooDeep, Syntax}
use Rattle.ctd_token.specs.declared.limits.TheConstants.{PROGRAM_LIMIT}
use Rattle.ctd_token.specs.Lexing.{HasFault}
use Rattle.ctd_syntax.specs.Lexeme.{Lexeme, lexeme_of}
use Rattle.std.specs.Option.{option_map_or}
use Rattle.ctd_token.specs.Cut.{Cuts, place_at}
use Rattle.ctd_syntax.specs.Nesting.{IsShallow, PassesLimitAt}
use Rattle.ctd_syntax.specs.Grammar.{IsCommands}
use Rattle.ctd_program.specs.Tree.{CommandList}

-- the tokens of a program as the grammar sees them
abbrev pub lexemes : List ℕ → List Token → List Lexeme
lexemes program ts = map (lexeme_of program) ts

-- the text is not too long, and is cut into these tokens
pub record IsCut (program : List ℕ) (ts : List Token) : Type 0 where
  pub short : length program ≤ PROGRAM_LIMIT
  pub cut : Cuts program 0 program ts

-- the text is cut, and its tokens do not nest too deeply and spell this program
pub record Reads (program : List ℕ) (tree : CommandList) : Type 0 where
  pub tokens : List Token
  pub is_cut : IsCut program tokens
  pub shallow : IsShallow (lexemes program tokens)
  pub spells : IsCommands (lexemes program tokens) tree

-- the one program that a text spells
pub record Parses (program : List ℕ) (tree : CommandList) : Type 0 where
  pub reads : Reads program tree
  pub only : (other : CommandList) → Reads program other → other ≡ tree

-- the first prefix of the tokens whose weight passes the limit ends with a token that has this place
pub record IsTooDeep (program : List ℕ) (place : Option Place) : Type 0 where
  pub tokens : List Token
  pub is_cut : IsCut program tokens
  pub before : ℕ
  pub deep : PassesLimitAt (lexemes program tokens) before
  pub place_is : place ≡ option_map (λ t. t.place) (slice_get tokens before)

-- a program begins with these tokens
abbrev pub BeginsProgram : List Lexeme → Type 0
BeginsProgram ts = (more : List Lexeme) × (tree : CommandList) × IsCommands (ts ++ more) tree

-- a program begins with the first so many of these tokens, and none with one more, if there is one
pub record IsFirstWrong (ts : List Lexeme) (before : ℕ) : Type 0 where
  pub goes_on : BeginsProgram (take before ts)
  pub stuck : before < length ts → ¬ (BeginsProgram (take (1 + before) ts))

-- the place of the token behind the first so many, or of the end of the text
abbrev pub place_behind : List ℕ → List Token → ℕ → Place
place_behind program tokens before = option_map_or (λ (t : Token). t.place) (slice_get tokens before) (place_at program (length program))

-- no fault stands before, and no program is spelled; the place is that of the first token with which no program goes on, or of the end
pub record IsNoProgram (program : List ℕ) (place : Option Place) : Type 0 where
  pub tokens : List Token
  pub is_cut : IsCut program tokens
  pub shallow : IsShallow (lexemes program tokens)
  pub none : (tree : CommandList) → ¬ (IsCommands (lexemes program tokens) tree)
  pub before : ℕ
  pub first : IsFirstWrong (lexemes program tokens) before
  pub place_is : place ≡ Some (place_behind program tokens before)

-- a text is refused with this fault before its patterns are asked; all kinds but these three are faults of a token, or hold of no text
abbrev pub IsRefused : List ℕ → LoadKind → Option Place → Type 0
IsRefused program ProgramTooLong place = (PROGRAM_LIMIT < length program) × (place ≡ None)
IsRefused program TooDeep place = IsTooDeep program place
IsRefused program Syntax place = IsNoProgram program place
IsRefused program kind place = HasFault program kind place
