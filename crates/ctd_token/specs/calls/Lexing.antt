-- What cutting the text of a program gives.
-- Used only by per-call contracts and laws.
use Rattle.std.specs.Prelude.{◌≡◌, ◌<◌, ◌≤◌, ◌⊎◌, ◌+◌, ℕ, List, [], drop, length, Option, Some, None, Ok}
use Rattle.ctd_token.specs.declared.limits.TheConstants.{PROGRAM_LIMIT}
use Rattle.ctd_token.specs.declared.text.Place.{Place}
use Rattle.ctd_token.specs.declared.token.Token.{Token}
use Rattle.ctd_token.specs.declared.fault.LoadKind.{LoadKind}
use Rattle.ctd_token.specs.declared.fault.LoadKind.TheVariants.{ProgramTooLong, BadByte, UnfinishedString, BadOctal, NumberTooLarge, NotInProfile, TooDeep, Syntax, BadPattern, Read, Memory}
use Rattle.ctd_token.specs.Cut.{Cuts, Faults, next_token, place_at, skip_gap, token_at}
use Rattle.ctd_token.specs.calls.Scanning.{wrong}
use Rattle.ctd_token.specs.Lexing.{HasFault}

-- the part of a text from an offset on, which is yet to be cut
pub record Uncut : Type 0 where
  pub text : List ℕ
  pub at : ℕ

-- the bytes of it
abbrev pub left : Uncut → List ℕ
left u = drop u.at u.text

-- it has no token
abbrev pub IsEnd : Uncut → Type 0
IsEnd u = skip_gap (left u) ≡ []

-- this is the token that comes next, and what is left behind it
pub record IsNext (u : Uncut) (t : Token) (rest : Uncut) : Type 0 where
  pub len : ℕ
  pub start : drop t.first u.text ≡ skip_gap (left u)
  pub found : token_at (drop t.first u.text) ≡ Ok (t.kind, len)
  pub first : t.first ≡ next_token u.at (left u)
  pub after : t.after ≡ t.first + len
  pub place : t.place ≡ place_at u.text t.first
  pub some : u.at < t.after
  pub within : t.after ≤ length u.text
  pub rest_is : rest ≡ record { text = u.text; at = t.after }

-- the token that comes next has this fault, at this place
pub record HasNextFault (u : Uncut) (kind : LoadKind) (place : Option Place) : Type 0 where
  pub behind : ℕ
  pub some : 0 < length (skip_gap (left u))
  pub found : token_at (skip_gap (left u)) ≡ wrong kind behind
  pub place_is : place ≡ Some (place_at u.text (next_token u.at (left u) + behind))

-- or memory ran out
abbrev pub IsNextFault : Uncut → LoadKind → Option Place → Type 0
IsNextFault u kind place = HasNextFault u kind place ⊎ ((kind ≡ Memory) × (place ≡ None))

-- the text is cut into some tokens, or some token of it has the first fault
abbrev pub IsDecided : List ℕ → Type 0
IsDecided program = ((ts : List Token) × Cuts program 0 program ts) ⊎ ((kind : LoadKind) × (offset : ℕ) × Faults 0 program kind offset)

-- a text has no tokens for this fault; running out of memory is no fault of a text and has no place, and the other kinds are no faults of tokens
abbrev pub IsLexFault : List ℕ → LoadKind → Option Place → Type 0
IsLexFault program ProgramTooLong place = (PROGRAM_LIMIT < length program) × (place ≡ None)
IsLexFault program BadByte place = HasFault program BadByte place
IsLexFault program UnfinishedString place = HasFault program UnfinishedString place
IsLexFault program BadOctal place = HasFault program BadOctal place
IsLexFault program NumberTooLarge place = HasFault program NumberTooLarge place
IsLexFault program NotInProfile place = HasFault program NotInProfile place
IsLexFault program TooDeep place = ⊥
IsLexFault program Syntax place = ⊥
IsLexFault program BadPattern place = ⊥
IsLexFault program Read place = ⊥
IsLexFault program Memory place = place ≡ None
