-- What ctd-lint writes of a program.
use Rattle.ctd_findings.specs.declared.kind.Rank.TheVariants as ranks
use Rattle.ctd_lint_report.specs.declared.setup.Form.TheVariants as forms
use Rattle.ctd_token.specs.FaultText as faults
use Rattle.std.specs.Prelude.{◌≡◌, ◌⊎◌, ◌+◌, ◌≤◌, ◌++◌, ◌&&◌, ℕ, Bool, List, [], ◌∷◌, All, length, max, codes, Option, Some, None, if◌then◌else◌}
use Rattle.ctd_lint_report.specs.Prelude.{BeforeAfter, Bor, CommandList, Finding, Form, GaveBytes, Ghosts, GuaranteeGroup, IsGuaranteed, IsPlaced, IsTrueOfRuns, LintSetup, LoadFault, Loads, MayFail, NeverHappens, PROGRAM_LIMIT, Place, Rank, Report}
use Rattle.ctd_lint_report.specs.Prelude.{Trap, TrapList, events_of, kind_row, list_any, on_err, on_out, places_of}
use Rattle.ctd_lint_report.specs.calls.Guarantees.{guarantees_entry}
use Rattle.ctd_lint_report.specs.calls.Kinds.{is_told_kind}
use Rattle.ctd_lint_report.specs.calls.Reasons.{reason_of}
use Rattle.ctd_lint_report.specs.calls.Text.{error_entry, findings_lines, kept, less_known_entry, never_lines}
use Rattle.ctd_lint_report.specs.calls.Traps.{AreTraps, Remarks, is_same_place, kept_traps, traps_lines, verdict_lines, verdict_status}

-- which remarks a report may have on a program in a file, whose traps are told
abbrev pub Remarking : Type 1
Remarking = List ℕ → LintSetup → CommandList → TrapList → Remarks → Type 0

-- the remarks, then the traps, and then the line that tells of verdicts, if it is asked for
abbrev pub program_lines : List ℕ → LintSetup → Remarks → TrapList → List ℕ
program_lines file setup remarks trap_list = remarks.lines ++ verdict_lines file setup remarks trap_list

-- the status: that of the remarks, and where verdicts are asked for the greater of it and theirs
abbrev pub program_status : LintSetup → Remarks → TrapList → ℕ
program_status setup remarks trap_list = if setup.verdicts then max remarks.status (verdict_status setup trap_list) else remarks.status

-- the report on a program in a file
abbrev pub program_report : List ℕ → LintSetup → Remarks → TrapList → Report
program_report file setup remarks trap_list = on_out (program_lines file setup remarks trap_list) (program_status setup remarks trap_list)

-- the report of an error: as text on standard error, and as JSON on standard output
abbrev pub error_report : Form → List ℕ → Report
error_report forms.Text text = on_err text
error_report forms.Json text = on_out text 2

-- the report of a fault of a program, with what is told of it besides its name, and the place of a command that has no END, if one is found
abbrev pub refusal_report : Form → List ℕ → LoadFault → List ℕ → Option Place → Report
refusal_report form file fault told unclosed = error_report form (error_entry form file fault.place (faults.kind_text fault.kind ++ told) unclosed)

-- the report of a file that cannot be opened
abbrev pub unopened_report : Form → List ℕ → Report
unopened_report form file = error_report form (error_entry form file None (codes "cannot open") None)

-- The source gave the text of a program, and the report is that of all the program's traps, with such remarks.
pub record ReportsProgram {P : Type 0} {G : Ghosts P} (IsRemark : Remarking) (file : List ℕ) (setup : LintSetup) (program : BeforeAfter P G) (report : Report) : Type 0 where
  pub tree : CommandList
  pub text : List ℕ
  pub gave_text : GaveBytes G program.old program.new text
  pub loads : Loads text (G.seen program.new) tree
  pub trap_list : TrapList
  pub traps : AreTraps tree setup.presets trap_list
  pub remarks : Remarks
  pub remarked : IsRemark file setup tree trap_list remarks
  pub report_is : report ≡ program_report file setup remarks trap_list

-- the source gave a text that may have this fault, and the report is that of the fault; what is told of it besides its name, and which command is told to have no END, is left open
pub record ReportsRefusal {P : Type 0} {G : Ghosts P} (file : List ℕ) (setup : LintSetup) (program : BeforeAfter P G) (report : Report) : Type 0 where
  pub fault : LoadFault
  pub text : List ℕ
  pub gave_text : GaveBytes G program.old program.new text
  pub within : length text ≤ PROGRAM_LIMIT + 1
  pub fails : MayFail text (G.seen program.new) fault
  pub told : List ℕ
  pub unclosed : Option Place
  pub report_is : report ≡ refusal_report setup.form file fault told unclosed

-- what is reported of the program in a file
abbrev pub IsLintReport : {P : Type 0} {G : Ghosts P} → Remarking → List ℕ → LintSetup → BeforeAfter P G → Report → Type 0
IsLintReport IsRemark file setup program report = ReportsProgram IsRemark file setup program report ⊎ ReportsRefusal file setup program report

-- the status for a finding of a rank, where that of the others is known
abbrev pub status_with : Rank → ℕ → ℕ
status_with ranks.Note others = others
status_with ranks.Warning others = 1

-- the status: 1 where a finding is a warning, else 0
abbrev pub findings_status : List Finding → ℕ
findings_status [] = 0
findings_status (f ∷ rest) = status_with (kind_row f.remark.kind).rank (findings_status rest)

-- whether a finding tells a trap too
abbrev pub tells : Finding → Trap → Bool
tells f t = is_same_place f.place t.place && is_told_kind f.remark.kind t.kind

-- whether one of some findings does
abbrev pub is_told : List Finding → Trap → Bool
is_told found t = list_any (λ f. tells f t) found

-- what is written of where less is known, behind the lines of traps, if there are any
abbrev pub less_known_lines : Form → List ℕ → List ℕ → Option Place → List ℕ
less_known_lines form file [] less_known = []
less_known_lines form file (b ∷ lines) None = []
less_known_lines form file (b ∷ lines) (Some p) = less_known_entry form file p

-- what every accepted file has, if that is asked for
abbrev pub asked_guarantees : List ℕ → LintSetup → List (Bor (List ℕ)) → List GuaranteeGroup → List ℕ
asked_guarantees file setup names groups = if setup.guarantees then guarantees_entry setup.form file names groups else []

-- what is told behind the lines of traps: from which command on less is known, what never happens, and what every accepted file has
abbrev pub notes_behind : List ℕ → LintSetup → List ℕ → List GuaranteeGroup → TrapList → List ℕ
notes_behind file setup lines groups list =
    less_known_lines setup.form file lines list.less_known ++ (never_lines setup.form file list.never.items ++ asked_guarantees file setup list.names.items groups)

-- the same, by which traps are told, and with which reasons
abbrev pub notes_of : List ℕ → LintSetup → (Trap → Bool) → (Trap → Option (List ℕ)) → List GuaranteeGroup → TrapList → List ℕ
notes_of file setup told reason groups list = notes_behind file setup (traps_lines setup.form file reason (kept_traps setup told list.traps.items)) groups list

-- the remarks of some findings, but for those that are left out, of what never happens, and of what every accepted file has
abbrev pub remarks_of : List ℕ → LintSetup → List Finding → List GuaranteeGroup → TrapList → Remarks
remarks_of file setup found groups trap_list = record {
  lines = findings_lines setup.form file (kept setup.ignored.items found);
  status = findings_status (kept setup.ignored.items found);
  told = is_told (kept setup.ignored.items found);
  reason = reason_of trap_list.names.items;
  notes = notes_of file setup (is_told (kept setup.ignored.items found)) (reason_of trap_list.names.items) groups trap_list;
}

-- the remarks are those of some findings, each of which has the place of a command, and is so in all runs if it says something of them, of what never happens in any run, and of lines that are so of every file that is accepted
pub record AreRemarks (file : List ℕ) (setup : LintSetup) (program : CommandList) (trap_list : TrapList) (remarks : Remarks) : Type 0 where
  pub found : List Finding
  pub placed : All (IsPlaced (places_of program)) found
  pub meant : All (IsTrueOfRuns program setup.presets) found
  pub never : NeverHappens program setup.presets (events_of trap_list.never.items)
  pub groups : List GuaranteeGroup
  pub guaranteed : All (IsGuaranteed program setup.presets trap_list.names.items) groups
  pub remarks_are : remarks ≡ remarks_of file setup found groups trap_list
