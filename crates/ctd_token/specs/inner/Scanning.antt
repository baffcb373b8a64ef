-- What scanning for one token answers.
use Rattle.ctd_token.specs.declared.fault.LoadKind.TheVariants as loading
use Rattle.ctd_token.specs.declared.token.TokenKind.TheVariants as tokens
use Rattle.std.specs.Prelude.{◌≡◌, ◌+◌, ℕ, List, Option, Some, None, Ok, Err}
use Rattle.std.specs.Option.{option_map_or}
use Rattle.ctd_token.specs.declared.fault.TokenFault.{TokenFault}
use Rattle.ctd_token.specs.declared.fault.TokenFault.TheVariants.{Wrong, Memory}
use Rattle.ctd_token.specs.declared.fault.LoadFault.{LoadFault}
use Rattle.ctd_token.specs.declared.token.Mark.{Mark}
use Rattle.ctd_token.specs.StringLiteral.{WholeLiteral}
use Rattle.ctd_token.specs.Cut.{Judgement, TokenOrFault, place_at}
use Rattle.ctd_token.specs.calls.Scanning.{wrong}

-- a mark of n bytes, or else something else
abbrev pub mark_or : Option Mark → ℕ → Judgement → Judgement
mark_or found n other = option_map_or (λ m. Ok (tokens.Mark m, n)) found other

-- a closed string: its first octal escape above 255 is a fault, at the backslash
abbrev pub closed_text : WholeLiteral → Option ℕ → TokenOrFault
closed_text c bad = option_map_or (λ n. wrong loading.BadOctal (1 + n)) bad (Ok (tokens.Text c.values, 1 + c.length))

-- a mark and its length, or a byte that begins no token
abbrev pub mark_judgement : Option (Mark × ℕ) → Judgement
mark_judgement (Some m) = Ok (tokens.Mark m.0, m.1)
mark_judgement None = Err loading.BadByte

-- the fault of a token that begins at an offset of a program, with its own place
abbrev pub IsFaultAt : List ℕ → ℕ → TokenFault → LoadFault → Type 0
IsFaultAt program at (Wrong kind behind) fault = fault ≡ record { kind = kind; place = Some (place_at program (at + behind)) }
IsFaultAt program at Memory fault = fault ≡ record { kind = loading.Memory; place = None }
