-- What every accepted file has, as lines.
use Rattle.ctd_traps.specs.declared.known.Known.{Known}
use Rattle.ctd_traps.specs.declared.known.Known.TheVariants as kinds
use Rattle.ctd_lint_report.specs.declared.relation.Relation.{Relation}
use Rattle.ctd_lint_report.specs.declared.relation.Sign.{Sign}
use Rattle.ctd_lint_report.specs.declared.relation.Sign.TheVariants as signs
use Rattle.ctd_lint_report.specs.declared.setup.Form.TheVariants as forms
use Rattle.std.specs.Prelude.{ℕ, Bool, true, false, List, [], ◌∷◌, ◌++◌, codes, flat_map, Option, Some, None, if◌then◌else◌}
use Rattle.ctd_lint_report.specs.Prelude.{Bor, Form, Guarantee, GuaranteeGroup, Place, bytes_eq, decimal, list_any}
use Rattle.ctd_lint_report.specs.calls.Json.{head_text, member, string_text}
use Rattle.ctd_lint_report.specs.calls.Parts.{line_relations}

-- a sign
abbrev pub sign_text : Sign → List ℕ
sign_text signs.AtMost = codes "<="
sign_text signs.Less = codes "<"
sign_text signs.Equal = codes "="
sign_text signs.Unequal = codes "!="

-- what stands left of a sign, by what stands right of the sign before: nothing where it is the same
abbrev pub left_text : Option (List ℕ) → List ℕ → List ℕ
left_text None left = left
left_text (Some before) left = if bytes_eq before left then [] else codes ", " ++ left

-- a relation behind others
abbrev pub relation_text : Option (List ℕ) → Relation → List ℕ
relation_text before r = left_text before r.left ++ codes " " ++ sign_text r.sign ++ codes " " ++ r.right

-- relations, in a chain where one begins with what the one before ends with
abbrev pub chain_text : Option (List ℕ) → List Relation → List ℕ
chain_text before [] = []
chain_text before (r ∷ rest) = relation_text before r ++ chain_text (Some r.right) rest

-- whether a name may have no value
abbrev pub may_lack : Known → Bool
may_lack (kinds.MayHave i p) = true
may_lack k = false

-- of which values a line is so, if not of all, where it has more than one part
abbrev pub shared_condition : List Known → List ℕ
shared_condition parts = if list_any may_lack parts then codes " (where they have values)" else []

-- of which values a line is so, if not of all
abbrev pub condition_text : List Known → List ℕ
condition_text (kinds.MayHave i p ∷ []) = codes " (where it has a value)"
condition_text (kinds.Elements i p ∷ []) = codes " (those that have a value)"
condition_text parts = shared_condition parts

-- a line by its relations: nothing where these are none
abbrev pub said_by : List Relation → List Known → List ℕ
said_by [] parts = []
said_by (r ∷ rest) parts = chain_text None (r ∷ rest) ++ condition_text parts

-- what a line says
abbrev pub line_text : List (Bor (List ℕ)) → List Known → List ℕ
line_text names parts = said_by (line_relations forms.Text names parts) parts

-- a line behind an indent, if it says anything
abbrev pub indented_line : List ℕ → List ℕ → List ℕ
indented_line indent [] = []
indented_line indent (b ∷ said) = indent ++ (b ∷ said) ++ codes "\n"

-- a relation, as JSON: left side, sign and right side
abbrev pub relation_array : Relation → List ℕ
relation_array r = codes "[" ++ string_text r.left ++ codes "," ++ string_text (sign_text r.sign) ++ codes "," ++ string_text r.right ++ codes "]"

-- relations, as JSON, with commas between them
abbrev pub relation_arrays : List ℕ → List Relation → List ℕ
relation_arrays comma [] = []
relation_arrays comma (r ∷ rest) = comma ++ relation_array r ++ relation_arrays (codes ",") rest

-- the member for relations
abbrev pub relations_member : List Relation → List ℕ
relations_member relations = codes ",\"relations\":[" ++ relation_arrays [] relations ++ codes "]"

-- the first members of the object of a line: file, place, rank and text
abbrev pub opening_text : List ℕ → Option Place → List ℕ → List ℕ
opening_text file place said = head_text file place ++ (member (codes "rank") (codes "guarantee") ++ member (codes "text") said)

-- the object of a line
abbrev pub guarantee_object : List ℕ → Option Place → List Relation → List ℕ → List ℕ
guarantee_object file place relations said = opening_text file place said ++ relations_member relations ++ codes "}\n"

-- the same, if the line says anything
abbrev pub line_object : List ℕ → Option Place → List Relation → List ℕ → List ℕ
line_object file place relations [] = []
line_object file place relations (b ∷ said) = guarantee_object file place relations (b ∷ said)

-- how far lines stand from the left: at the end of each turn of a loop farther than in the end of a file
abbrev pub indent_text : Option Place → List ℕ
indent_text None = codes "  "
indent_text (Some p) = codes "    "

-- what is written of a line
abbrev pub guarantee_entry : Form → List ℕ → List (Bor (List ℕ)) → Option Place → Guarantee → List ℕ
guarantee_entry forms.Text file names place g = indented_line (indent_text place) (line_text names g.parts.items)
guarantee_entry forms.Json file names place g = line_object file place (line_relations forms.Json names g.parts.items) (line_text names g.parts.items)

-- a place
abbrev pub spot_text : Place → List ℕ
spot_text p = decimal p.line ++ codes ":" ++ decimal p.column

-- where lines are so that have a place
abbrev pub turns_text : Place → List ℕ
turns_text p = codes "  at the end of each turn of " ++ spot_text p ++ codes "\n"

-- what stands above the lines of a place
abbrev pub group_title : Form → Option Place → List ℕ
group_title forms.Text (Some p) = turns_text p
group_title form place = []

-- lines with a title above, if there are any
abbrev pub headed_lines : List ℕ → List ℕ → List ℕ
headed_lines title [] = []
headed_lines title (b ∷ lines) = title ++ (b ∷ lines)

-- what is written of the lines of a place
abbrev pub group_entry : Form → List ℕ → List (Bor (List ℕ)) → GuaranteeGroup → List ℕ
group_entry form file names g = headed_lines (group_title form g.place) (flat_map (guarantee_entry form file names g.place) g.lines.items)

-- whether lines are those of the end of a file, or whether they are those of places
abbrev pub is_part : Bool → Option Place → Bool
is_part true None = true
is_part true (Some p) = false
is_part false None = false
is_part false (Some p) = true

-- the same, if the lines are those of the end, or if they are those of a place
abbrev pub part_entry : Form → List ℕ → List (Bor (List ℕ)) → Bool → GuaranteeGroup → List ℕ
part_entry form file names in_end g = if is_part in_end g.place then group_entry form file names g else []

-- what stands above all
abbrev pub guarantees_title : Form → List ℕ → List ℕ
guarantees_title forms.Text file = file ++ codes ": every file that fits has\n"
guarantees_title forms.Json file = []

-- the lines of what every accepted file has: those of the end, and then those of places
abbrev pub all_lines : Form → List ℕ → List (Bor (List ℕ)) → List GuaranteeGroup → List ℕ
all_lines form file names groups = flat_map (part_entry form file names true) groups ++ flat_map (part_entry form file names false) groups

-- what is written of what every accepted file has
abbrev pub guarantees_entry : Form → List ℕ → List (Bor (List ℕ)) → List GuaranteeGroup → List ℕ
guarantees_entry form file names groups = headed_lines (guarantees_title form file) (all_lines form file names groups)
