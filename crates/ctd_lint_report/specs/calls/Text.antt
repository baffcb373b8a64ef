-- What ctd-lint writes, as lines of text, or as JSON.
use Rattle.std.specs.Prelude.{ℕ, List, [], ◌∷◌, ◌++◌, codes, flat_map, Option, Some, None, if◌then◌else◌}
use Rattle.ctd_lint_report.specs.Prelude.{Finding, Form, LintKind, Note, Place, Remark, Trap, decimal, kind_row}
use Rattle.ctd_lint_report.specs.calls.Json.{error_object, finding_object, less_known_object, less_known_text, never_object, trap_object, verdict_object}
use Rattle.ctd_lint_report.specs.calls.Kinds.{is_ignored, rank_text, trap_name, trap_text}
use Rattle.ctd_lint_report.specs.declared.setup.Form.TheVariants as forms

-- a place behind the name of a file
abbrev pub place_text : Place → List ℕ
place_text p = codes ":" ++ decimal p.line ++ codes ":" ++ decimal p.column

-- the name that a finding is about, or the reason of a trap, if there is one
abbrev pub about_text : Option (List ℕ) → List ℕ
about_text None = []
about_text (Some about) = codes ": " ++ about

-- what a remark says, with the name of its kind
abbrev pub remark_text : Remark → List ℕ
remark_text r = rank_text (kind_row r.kind).rank ++ codes ": " ++ (kind_row r.kind).text ++ about_text r.name ++ codes " [" ++ (kind_row r.kind).name ++ codes "]\n"

-- the line of a finding in a file
abbrev pub finding_line : List ℕ → Finding → List ℕ
finding_line file f = file ++ place_text f.place ++ codes ": " ++ remark_text f.remark

-- what is written of a finding
abbrev pub finding_entry : Form → List ℕ → Finding → List ℕ
finding_entry forms.Text file f = finding_line file f
finding_entry forms.Json file f = finding_object file f

-- what is written of each of some findings
abbrev pub findings_lines : Form → List ℕ → List Finding → List ℕ
findings_lines form file [] = []
findings_lines form file (f ∷ rest) = finding_entry form file f ++ findings_lines form file rest

-- the findings that are not left out
abbrev pub kept : List LintKind → List Finding → List Finding
kept ignored [] = []
kept ignored (f ∷ rest) = if is_ignored ignored (kind_row f.remark.kind).name then kept ignored rest else f ∷ kept ignored rest

-- the line of a trap in a file, with its reason
abbrev pub trap_line : List ℕ → Option (List ℕ) → Trap → List ℕ
trap_line file reason t = file ++ place_text t.place ++ codes ": risk: " ++ trap_text t.kind ++ about_text reason ++ codes " [" ++ trap_name t.kind ++ codes "]\n"

-- what is written of a trap
abbrev pub trap_entry : Form → List ℕ → Option (List ℕ) → Trap → List ℕ
trap_entry forms.Text file reason t = trap_line file reason t
trap_entry forms.Json file reason t = trap_object file reason t

-- what is written of what never happens: nothing as text
abbrev pub never_lines : Form → List ℕ → List Note → List ℕ
never_lines forms.Text file notes = []
never_lines forms.Json file notes = flat_map (never_object file) notes

-- the line of the command from which on less is known
abbrev pub less_known_line : List ℕ → Place → List ℕ
less_known_line file p = file ++ place_text p ++ codes ": note: " ++ less_known_text ++ codes "\n"

-- what is written of the command from which on less is known
abbrev pub less_known_entry : Form → List ℕ → Place → List ℕ
less_known_entry forms.Text file p = less_known_line file p
less_known_entry forms.Json file p = less_known_object file p

-- the line of what is said of verdicts
abbrev pub verdict_line : List ℕ → List ℕ → List ℕ
verdict_line file said = file ++ codes ": " ++ said ++ codes "\n"

-- what is written of verdicts
abbrev pub verdict_entry : Form → List ℕ → List ℕ → List ℕ
verdict_entry forms.Text file said = verdict_line file said
verdict_entry forms.Json file said = verdict_object file said

-- the place of an error, where it has one
abbrev pub error_place_text : Option Place → List ℕ
error_place_text None = []
error_place_text (Some p) = place_text p

-- the line of the command that has no END, if one is found
abbrev pub unclosed_line : List ℕ → Option Place → List ℕ
unclosed_line file None = []
unclosed_line file (Some p) = file ++ (place_text p ++ codes ": note: this command has no END\n")

-- the lines of an error
abbrev pub error_lines : List ℕ → Option Place → List ℕ → Option Place → List ℕ
error_lines file place said unclosed = file ++ error_place_text place ++ codes ": error: " ++ said ++ codes "\n" ++ unclosed_line file unclosed

-- what is written of an error
abbrev pub error_entry : Form → List ℕ → Option Place → List ℕ → Option Place → List ℕ
error_entry forms.Text file place said unclosed = error_lines file place said unclosed
error_entry forms.Json file place said unclosed = error_object file place said unclosed
