-- What is reported of a file, and of words that name none.
use Rattle.ctd_lint_tool.specs.declared.command_line.LintFault.TheVariants as faults
use Rattle.std.specs.Prelude.{◌≡◌, ◌++◌, ℕ, List, None, Option, Some, codes}
use Rattle.ctd_source.specs.declared.source.Source.{Ghosts}
use Rattle.ctd_report.specs.Report.{Report, on_err, on_out}
use Rattle.ctd_report.specs.Written.{before_after}
use Rattle.ctd_lint_report.specs.declared.setup.LintSetup.{LintSetup}
use Rattle.ctd_lint_tool.specs.declared.command_line.LintFault.{LintFault}
use Rattle.ctd_lint_report.specs.calls.Report.{IsLintReport, Remarking, unopened_report}

-- the program of this name was opened, the report is that of what its source gave from then on, and the source was handed back as the report left it; or it could not be opened, and the report says so
pub data IsNamedReport {F S : Type 0} (opens : F → List ℕ → Option S → F → Type 0) (closes : F → S → F → Type 0) (G : Ghosts S) (IsRemark : Remarking) (name : List ℕ) (setup : LintSetup) (old new : F) (report : Report) : Type 0 where
  of_program : (program after : S) (between : F) → opens old name (Some program) between → IsLintReport IsRemark name setup (before_after G program after) report → closes between after new → IsNamedReport opens closes G IsRemark name setup old new report
  not_opened : opens old name None new → report ≡ unopened_report setup.form name → IsNamedReport opens closes G IsRemark name setup old new report

-- what is written for a kind that there is not
abbrev pub unknown_kind_text : List ℕ → List ℕ
unknown_kind_text name = codes "ctd-lint: unknown kind: " ++ name ++ codes "\n"

-- what is written for words that ask for no program
abbrev pub usage_text : LintFault → List ℕ
usage_text faults.Words = codes "ctd-lint: bad arguments\nTry 'ctd-lint --help'.\n"
usage_text faults.BadPreset = codes "ctd-lint: bad preset\n"
usage_text (faults.UnknownKind name) = unknown_kind_text name
usage_text faults.Help = codes "Usage: ctd-lint [OPTION]... PROGRAM...\nReport likely mistakes in each PROGRAM, and where it may stop without a verdict.\n  -D, --define=<name>=<value>[,...]  preset variables\n      --ignore=<kind>[,...]          leave out findings of these kinds\n      --verdicts                     tell whether every data file gets a verdict\n      --guarantees                   tell what every accepted file has\n      --json                         write an object of JSON a line\n  -h, --help                         show this text\n  -V, --version                      show the version\n"
usage_text faults.Version = codes "ctd-lint 1.0 (whole-number profile)\n"
usage_text faults.Memory = codes "ctd-lint: out of memory\n"

-- its report: what was asked for goes to standard output, and a fault to standard error
abbrev pub usage_report : LintFault → Report
usage_report faults.Words = on_err (usage_text faults.Words)
usage_report faults.BadPreset = on_err (usage_text faults.BadPreset)
usage_report (faults.UnknownKind name) = on_err (usage_text (faults.UnknownKind name))
usage_report faults.Help = on_out (usage_text faults.Help) 0
usage_report faults.Version = on_out (usage_text faults.Version) 0
usage_report faults.Memory = on_err (usage_text faults.Memory)
