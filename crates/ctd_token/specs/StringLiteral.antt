-- What stands between the quotes of a string literal.
use Rattle.std.specs.Prelude.{ℕ, zero, suc, ◌+◌, ◌-◌, ◌*◌, min, ◌&&◌, Bool, nat_eq, nat_le, nat_lt, if◌then◌else◌, List, [], ◌∷◌, ◌++◌, length, take, fold, sum, zip, find, codes, Option, Some, None, option_map}
use Rattle.std.specs.List.{prefix_len}
use Rattle.std.specs.Option.{option_map_or}

-- `0` to `7`
abbrev pub is_octal : ℕ → Bool
is_octal b = nat_le 48 b && nat_le b 55

-- how many octal digits an escape takes: up to three, as many as there are
abbrev pub octal_len : List ℕ → ℕ
octal_len bytes = min 3 (prefix_len is_octal bytes)

-- the number that octal digits spell
abbrev pub octal : List ℕ → ℕ
octal digits = fold (λ n b. 8 * n + (b - 48)) 0 digits

-- the next bytes of a literal: what they stand for, and how many they are
pub record LiteralPart : Type 0 where
  pub values : List ℕ
  pub length : ℕ

-- so many bytes stand for these values
abbrev pub literal_part : List ℕ → ℕ → LiteralPart
literal_part values length = record { values = values; length = length }

-- the bytes that make an escape with the backslash before them, each with what the two stand for: a line feed, a tab, a carriage return, a backspace, the byte itself, or nothing at all
abbrev pub escapes : List (ℕ × List ℕ)
escapes = zip (codes "ntrb\"\\\n") (codes "\n" ∷ codes "\t" ∷ codes "\r" ∷ (8 ∷ []) ∷ codes "\"" ∷ codes "\\" ∷ [] ∷ [])

-- a backslash and a byte that is no octal digit: both are read where they make an escape, and else the backslash alone, which stands for itself
abbrev pub escape : ℕ → LiteralPart
escape b = option_map_or (λ (e : ℕ × List ℕ). literal_part e.1 2) (find (λ e. nat_eq b e.0) escapes) (literal_part (92 ∷ []) 1)

-- a backslash and the octal digits after it
abbrev pub octal_escape : List ℕ → LiteralPart
octal_escape bytes = literal_part (octal (take (octal_len bytes) bytes) ∷ []) (1 + octal_len bytes)

-- a backslash and the bytes after it: an octal escape, another one, or the backslash alone
abbrev pub after_backslash : List ℕ → LiteralPart
after_backslash [] = literal_part (92 ∷ []) 1
after_backslash (b ∷ bs) =
    if is_octal b then octal_escape (b ∷ bs) else escape b

-- any other byte stands for itself
abbrev pub part_at : ℕ → List ℕ → LiteralPart
part_at b bs = if nat_eq b 92 then after_backslash bs else literal_part (b ∷ []) 1

-- a literal read up to its closing quote: what it stands for, where its first octal escape above 255 is, and its length with the quote
pub record WholeLiteral : Type 0 where
  pub values : List ℕ
  pub bad_octal : Option ℕ
  pub length : ℕ

-- a literal that begins one byte earlier
abbrev pub one_later : WholeLiteral → WholeLiteral
one_later c = record { values = c.values; bad_octal = option_map (λ n. 1 + n) c.bad_octal; length = 1 + c.length }

-- a part in front: only an octal escape stands for more than 255
abbrev pub with_part : LiteralPart → WholeLiteral → WholeLiteral
with_part p c = record {
  values = p.values ++ c.values;
  bad_octal = if nat_lt 255 (sum p.values) then Some 0 else option_map (λ n. 1 + n) c.bad_octal;
  length = 1 + c.length;
}

-- part by part to the closing quote, after some bytes that belong to the last part; nothing where no quote closes
abbrev pub literal : (skipped : ℕ) → List ℕ → Option WholeLiteral
literal skipped [] = None
literal (suc n) (b ∷ bs) = option_map one_later (literal n bs)
literal zero (b ∷ bs) =
    if nat_eq b 34 then Some (record { values = []; bad_octal = None; length = 1 })
    else option_map (with_part (part_at b bs)) (literal ((part_at b bs).length - 1) bs)
