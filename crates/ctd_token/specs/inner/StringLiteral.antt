-- What stands between the quotes of a string literal.
-- Used only by the proofs of this crate.
use Rattle.std.specs.Prelude.{ℕ, ◌&&◌, Bool, not, nat_eq, [], None}
use Rattle.ctd_token.specs.StringLiteral.{WholeLiteral}

-- neither a quote nor a backslash
abbrev pub is_plain : ℕ → Bool
is_plain b = not (nat_eq b 34) && not (nat_eq b 92)

-- the closing quote
abbrev pub closing_quote : WholeLiteral
closing_quote = record { values = []; bad_octal = None; length = 1 }
