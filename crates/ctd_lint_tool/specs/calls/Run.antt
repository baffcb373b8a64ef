-- What a process of ctd-lint asks of its system, what it writes, and its status. The last definition, `EndsLint`, is the whole.
use Rattle.ctd_lint_tool.specs.declared.command_line.LintFault.TheVariants as faults
use Rattle.std.specs.Prelude.{◌≡◌, ◌≢◌, ℕ, List, [], ◌∷◌, Option, Ok, Err, max}
use Rattle.std.specs.declared.alloc.Global.{Global}
use Rattle.std.specs.declared.io.ErrorKind.{ErrorKind}
use Rattle.std.specs.declared.io.ErrorKind.TheVariants.{OutOfMemory}
use Rattle.std.specs.declared.string.String.{String}
use Rattle.std.specs.declared.vec.IntoIter.{IntoIter}
use Rattle.ctd_source.specs.declared.source.Source as sources
use Rattle.ctd_report.specs.declared.sink.Sink as sinks
use Rattle.ctd_report.specs.declared.sink.ToWrite.{ToWrite}
use Rattle.ctd_report.specs.Report.{Report}
use Rattle.ctd_report.specs.Writer.{new_sink}
use Rattle.ctd_report.specs.Written.{FailsMidway, EndsWithReport, WritesAll, before_after}
use Rattle.ctd_process.specs.declared.host.Host as hosts
use Rattle.ctd_process.specs.Words.{Args, words_in}
use Rattle.ctd_process.specs.Process.{Begins}
use Rattle.ctd_lint_tool.specs.declared.command_line.LintFault.{LintFault}
use Rattle.ctd_lint_report.specs.declared.setup.LintSetup.{LintSetup}
use Rattle.ctd_lint_tool.specs.declared.process.Answered.{Answered}
use Rattle.ctd_lint_tool.specs.calls.CommandLine.{IsLintSetup}
use Rattle.ctd_lint_report.specs.calls.Report.{Remarking}
use Rattle.ctd_lint_tool.specs.declared.command_line.Setup.{Setup}
use Rattle.ctd_lint_tool.specs.calls.FileReport.{IsNamedReport, usage_report}
use Rattle.ctd_lint_tool.specs.calls.Opening.{WasAskedFor}
use Rattle.ctd_lint_tool.specs.calls.Usage.{IsLintFault}

-- what opening a program, asking for one and handing its source back do, what its source and the two streams tell, and which remarks a report may have
pub record Means (F S O E : Type 0) : Type 1 where
  pub opens : F → List ℕ → Option S → F → Type 0
  pub asks : F → List ℕ → F → Type 0
  pub closes : F → S → F → Type 0
  pub source : sources.Ghosts S
  pub out : sinks.Ghosts O
  pub err : sinks.Ghosts E
  pub remarks : Remarking

-- the files and the two streams, at one time
pub record Stand (F O E : Type 0) : Type 0 where
  pub files : F
  pub out : O
  pub err : E

-- the files and the two streams
abbrev pub stand : {F O E : Type 0} → F → O → E → Stand F O E
stand files out err = record { files = files; out = out; err = err }

-- this is the report of the program of this name, which was asked for: of what its source gave, or that it could not be opened
abbrev pub IsReportOf : {F S O E : Type 0} → Means F S O E → LintSetup → List ℕ → Stand F O E → Stand F O E → Report → Type 0
IsReportOf m setup name old new report = IsNamedReport m.opens m.closes m.source m.remarks name setup old.files new.files report

-- between the two times one of these reports was written, or broke off in a stream that failed, and the process ends with this status
abbrev pub EndsIn : {F S O E : Type 0} → Means F S O E → Stand F O E → Stand F O E → (Report → Type 0) → ℕ → Type 0
EndsIn m old new Reports status = EndsWithReport (before_after m.out old.out new.out) (before_after m.err old.err new.err) Reports status

-- the same, and no file was asked for
pub record EndsInFault {F S O E : Type 0} (m : Means F S O E) (old new : Stand F O E) (fault : LintFault) (status : ℕ) : Type 0 where
  pub no_file : new.files ≡ old.files
  pub told : EndsIn m old new (λ report. report ≡ usage_report fault) status

-- the file of this name was asked for, and its report was written whole, with this status
pub record LintsOne {F S O E : Type 0} (m : Means F S O E) (setup : LintSetup) (name : List ℕ) (old new : Stand F O E) (status : ℕ) : Type 0 where
  pub report : Report
  pub is : IsReportOf m setup name old new report
  pub written : WritesAll (before_after m.out old.out new.out) (before_after m.err old.err new.err) report status

-- the file of this name was asked for, and a stream failed in its report
pub record FailsMidwayIn {F S O E : Type 0} (m : Means F S O E) (setup : LintSetup) (name : List ℕ) (old new : Stand F O E) : Type 0 where
  pub report : Report
  pub is : IsReportOf m setup name old new report
  pub part : FailsMidway (before_after m.out old.out new.out) (before_after m.err old.err new.err) report

-- the programs of these names were linted, one after the other, but for the last of them, which are still to come; the status is the greatest of theirs
pub data Lints {F S O E : Type 0} (m : Means F S O E) (setup : LintSetup) (names : List (List ℕ)) (first : Stand F O E) : List (List ℕ) → ℕ → Stand F O E → Type 0 where
  no_program : Lints m setup names first names 0 first
  one_more : (name : List ℕ) (later : List (List ℕ)) (status own : ℕ) (between new : Stand F O E) → Lints m setup names first (name ∷ later) status between → LintsOne m setup name between new own → Lints m setup names first later (max status own) new

-- the programs were linted up to this name; it was asked for, and those after it were not
pub record StopsAt {F S O E : Type 0} (m : Means F S O E) (setup : LintSetup) (names : List (List ℕ)) (first : Stand F O E) : Type 0 where
  pub name : List ℕ
  pub later : List (List ℕ)
  pub status : ℕ
  pub between : Stand F O E
  pub linted : Lints m setup names first (name ∷ later) status between

-- a stream failed in the report of a program
pub record FailsMidwayAt {F S O E : Type 0} (m : Means F S O E) (setup : LintSetup) (names : List (List ℕ)) (first last : Stand F O E) : Type 0 where
  pub at : StopsAt m setup names first
  pub breaks : FailsMidwayIn m setup at.name at.between last

-- memory ran out at a program, of which nothing was written
pub record RunsOutAt {F S O E : Type 0} (m : Means F S O E) (setup : LintSetup) (names : List (List ℕ)) (first last : Stand F O E) : Type 0 where
  pub at : StopsAt m setup names first
  pub asked : WasAskedFor m.opens m.closes m.asks at.between.files at.name last.files
  pub no_out : last.out ≡ at.between.out
  pub no_err : last.err ≡ at.between.err

-- all programs were linted; or a stream failed in the report of one, and the status is 2; or memory ran out at one, and that was told. After these no file is asked for
pub data EndsRun {F S O E : Type 0} (m : Means F S O E) (setup : LintSetup) (names : List (List ℕ)) (first last : Stand F O E) (status : ℕ) : Type 0 where
  whole_run : Lints m setup names first [] status last → EndsRun m setup names first last status
  broken_run : FailsMidwayAt m setup names first last → status ≡ 2 → EndsRun m setup names first last status
  no_memory : (before : Stand F O E) → RunsOutAt m setup names first before → EndsInFault m before last faults.Memory status → EndsRun m setup names first last status

-- the words name programs, and just these were linted; or they have this fault, which was told
pub data EndsWords {F S O E : Type 0} (m : Means F S O E) (words : List (List ℕ)) (first last : Stand F O E) (status : ℕ) : Type 0 where
  of_programs : (s : Setup) → IsLintSetup words s → EndsRun m s.report s.programs.items first last status → EndsWords m words first last status
  of_fault : (fault : LintFault) → IsLintFault words fault → EndsInFault m first last fault status → EndsWords m words first last status

-- the system gave words, and just these were answered; or it gave none; or no memory was left for them
pub data EndsArgs {F S O E : Type 0} (m : Means F S O E) (args : Args) (first last : Stand F O E) (status : ℕ) : Type 0 where
  with_words : (given : IntoIter (String Global) Global) → args ≡ Ok given → EndsWords m (words_in given) first last status → EndsArgs m args first last status
  bad_words : (kind : ErrorKind) → args ≡ Err kind → kind ≢ OutOfMemory → EndsInFault m first last faults.Words status → EndsArgs m args first last status
  no_room : EndsInFault m first last faults.Memory status → EndsArgs m args first last status

-- a process asked its host for the two streams, each once, and for the words, once; then it answered these
pub record EndsLint {F R S O E : Type 0} (h : hosts.Ghosts F O E R) (m : Means F S (ToWrite O) (ToWrite E)) (old new : F) (end : Answered O E) : Type 0 where
  pub begins : Begins h old
  pub ends : EndsArgs m begins.args (stand begins.after_args (new_sink begins.out) (new_sink begins.err)) (stand new end.out end.err) end.status
