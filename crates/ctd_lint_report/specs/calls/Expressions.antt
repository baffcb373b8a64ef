-- Expressions, as the language writes them.
use Rattle.ctd_elements.specs.declared.fact.Bound.{Bound}
use Rattle.ctd_elements.specs.declared.fact.Index.{Index}
use Rattle.ctd_elements.specs.declared.fact.Index.TheVariants as indices
use Rattle.ctd_elements.specs.declared.fact.Filling.{Filling}
use Rattle.ctd_elements.specs.declared.fact.Side.{Side}
use Rattle.ctd_elements.specs.declared.fact.Side.TheVariants as sides
use Rattle.ctd_elements.specs.declared.fact.Term.{Term}
use Rattle.std.specs.Prelude.{ℕ, ℤ, pos, ◌-ℤ◌, ◌/◌, ◌%◌, List, [], ◌∷◌, ◌++◌, codes, flat_map, Option, Some, None, if◌then◌else◌, int_lt, nat_eq}
use Rattle.ctd_lint_report.specs.Prelude.{Bor, Form, decimal, digit_char, int_eq}
use Rattle.ctd_lint_report.specs.calls.Json.{is_printable, is_quoted}
use Rattle.ctd_lint_report.specs.calls.Numbers.{integer_entry}
use Rattle.ctd_lint_report.specs.calls.Reasons.{name_at}

-- a name, if there is one
abbrev pub optional_text : Option (List ℕ) → List ℕ
optional_text None = []
optional_text (Some text) = text

-- a name by its index
abbrev pub name_text : List (Bor (List ℕ)) → ℕ → List ℕ
name_text names i = optional_text (name_at names i)

-- a multiple of a name
abbrev pub term_text : List (Bor (List ℕ)) → Term → List ℕ
term_text names t = (if nat_eq t.times 1 then [] else decimal t.times ++ codes "*") ++ name_text names t.name

-- a number that is added to what stands before
abbrev pub offset_text : Form → ℤ → List ℕ
offset_text form z = if int_eq z (pos 0) then [] else ((if int_lt z (pos 0) then [] else codes "+") ++ integer_entry form z)

-- a multiple of a name, if there is one, with a number added
abbrev pub sum_text : Form → List (Bor (List ℕ)) → Option Term → ℤ → List ℕ
sum_text form names None z = integer_entry form z
sum_text form names (Some t) z = term_text names t ++ offset_text form z

-- a byte by its number, with three octal digits
abbrev pub octal_text : ℕ → List ℕ
octal_text b = codes "\\" ++ digit_char (b / 64) ∷ digit_char (b / 8 % 8) ∷ digit_char (b % 8) ∷ []

-- a byte in a literal
abbrev pub literal_byte : ℕ → List ℕ
literal_byte b = if is_quoted b then 92 ∷ b ∷ [] else (if is_printable b then b ∷ [] else octal_text b)

-- a literal, whatever its bytes are
abbrev pub literal_text : List ℕ → List ℕ
literal_text s = codes "\"" ++ flat_map literal_byte s ++ codes "\""

-- an index
abbrev pub index_text : Form → List (Bor (List ℕ)) → Index → List ℕ
index_text form names (indices.Number b) = sum_text form names b.term b.add
index_text form names (indices.Value i) = name_text names i
index_text form names (indices.Text i) = literal_text (name_text names i)

-- from one bound up to, and without, another: the first and the last number
abbrev pub interval_text : Form → List (Bor (List ℕ)) → Bound → Bound → List ℕ
interval_text form names low high = sum_text form names low.term low.add ++ codes ".." ++ sum_text form names high.term (high.add -ℤ pos 1)

-- a side of a block
abbrev pub side_text : Form → List (Bor (List ℕ)) → Side → List ℕ
side_text form names (sides.At index) = index_text form names index
side_text form names (sides.Between s) = interval_text form names s.low s.high

-- the second side, if there is one
abbrev pub second_text : Form → List (Bor (List ℕ)) → Option Side → List ℕ
second_text form names None = []
second_text form names (Some s) = codes "," ++ side_text form names s

-- the elements of an array: in a block, if there is one, else those that have a value
abbrev pub elements_text : Form → List (Bor (List ℕ)) → ℕ → Option Filling → List ℕ
elements_text form names array None = name_text names array ++ codes "[..]"
elements_text form names array (Some f) = name_text names array ++ codes "[" ++ side_text form names f.block.first ++ second_text form names f.block.second ++ codes "]"
