-- What ctd-lint writes with --json: an object a line.
use Rattle.ctd_traps.specs.declared.note.EventKind.TheVariants as events
use Rattle.std.specs.Prelude.{ℕ, Bool, ◌||◌, ◌&&◌, ◌/◌, ◌%◌, List, [], ◌∷◌, ◌++◌, codes, flat_map, Option, Some, None, if◌then◌else◌, nat_eq, nat_le}
use Rattle.ctd_lint_report.specs.Prelude.{EventKind, Finding, Note, Place, Trap, decimal, digit_char, kind_row}
use Rattle.ctd_lint_report.specs.calls.Kinds.{rank_text, trap_name, trap_text}

-- whether a byte has a backslash before it in a string: a quotation mark or a backslash
abbrev pub is_quoted : ℕ → Bool
is_quoted b = nat_eq b 34 || nat_eq b 92

-- whether a byte is printable ASCII
abbrev pub is_printable : ℕ → Bool
is_printable b = nat_le 32 b && nat_le b 126

-- a byte by its number, with two hexadecimal digits
abbrev pub code_text : ℕ → List ℕ
code_text b = codes "\\u00" ++ digit_char (b / 16) ∷ digit_char (b % 16) ∷ []

-- a byte in a string
abbrev pub byte_text : ℕ → List ℕ
byte_text b = if is_quoted b then 92 ∷ b ∷ [] else (if is_printable b then b ∷ [] else code_text b)

-- a string, whatever its bytes are
abbrev pub string_text : List ℕ → List ℕ
string_text s = codes "\"" ++ flat_map byte_text s ++ codes "\""

-- the members for a place
abbrev pub numbers_text : Place → List ℕ
numbers_text p = codes "\"line\":" ++ decimal p.line ++ codes ",\"column\":" ++ decimal p.column

-- a member with a string, behind others
abbrev pub member : List ℕ → List ℕ → List ℕ
member key value = codes ",\"" ++ key ++ codes "\":" ++ string_text value

-- the same, where there is a string
abbrev pub optional_member : List ℕ → Option (List ℕ) → List ℕ
optional_member key None = []
optional_member key (Some value) = member key value

-- the first members of an object: its file, and its place, where it has one
abbrev pub head_text : List ℕ → Option Place → List ℕ
head_text file None = codes "{\"file\":" ++ string_text file
head_text file (Some p) = codes "{\"file\":" ++ string_text file ++ codes "," ++ numbers_text p

-- the members of a finding or a trap but for the last: file, place, rank, kind and text
abbrev pub said_text : List ℕ → Place → List ℕ → List ℕ → List ℕ → List ℕ
said_text file p rank kind said = head_text file (Some p) ++ member (codes "rank") rank ++ member (codes "kind") kind ++ member (codes "text") said

-- a finding in a file
abbrev pub finding_object : List ℕ → Finding → List ℕ
finding_object file f = said_text file f.place (rank_text (kind_row f.remark.kind).rank) (kind_row f.remark.kind).name (kind_row f.remark.kind).text ++ optional_member (codes "name") f.remark.name ++ codes "}\n"

-- a trap in a file, with its reason
abbrev pub trap_object : List ℕ → Option (List ℕ) → Trap → List ℕ
trap_object file reason t = said_text file t.place (codes "risk") (trap_name t.kind) (trap_text t.kind) ++ optional_member (codes "reason") reason ++ codes "}\n"

-- what is said of the command from which on less is known
abbrev pub less_known_text : List ℕ
less_known_text = codes "less is known from here on, since the program takes long to analyse"

-- the command in a file from which on less is known
abbrev pub less_known_object : List ℕ → Place → List ℕ
less_known_object file p = head_text file (Some p) ++ member (codes "rank") (codes "note") ++ member (codes "text") less_known_text ++ codes "}\n"

-- what may happen at a command: it begins, a run goes on behind it, or its test is true, or false
abbrev pub event_name : EventKind → List ℕ
event_name events.Begins = codes "begins"
event_name events.GoesOn = codes "goes-on"
event_name events.IsTrue = codes "is-true"
event_name events.IsFalse = codes "is-false"

-- what never happens at a command
abbrev pub never_object : List ℕ → Note → List ℕ
never_object file n = head_text file (Some n.place) ++ member (codes "rank") (codes "never") ++ member (codes "kind") (event_name n.kind) ++ codes "}\n"

-- what is said of verdicts
abbrev pub verdict_object : List ℕ → List ℕ → List ℕ
verdict_object file said = head_text file None ++ member (codes "rank") (codes "verdict") ++ member (codes "text") said ++ codes "}\n"

-- the place of the command that has no END, if one is found
abbrev pub unclosed_member : Option Place → List ℕ
unclosed_member None = []
unclosed_member (Some p) = codes ",\"unclosed\":{" ++ numbers_text p ++ codes "}"

-- why a program is not read
abbrev pub error_object : List ℕ → Option Place → List ℕ → Option Place → List ℕ
error_object file place said unclosed = head_text file place ++ member (codes "rank") (codes "error") ++ member (codes "text") said ++ unclosed_member unclosed ++ codes "}\n"
