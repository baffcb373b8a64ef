-- The theorem of the tool: what a process writes and ends with. It is `EndsProcess`, the last definition, which the contract of `answer` names.
use Rattle.std.specs.Prelude.{◌≡◌, ◌≢◌, ◌+◌, ◌≤◌, ℕ, Bool, List, Option, None, Some, Result, Ok, Err, length}
use Rattle.std.specs.declared.alloc.Global.{Global}
use Rattle.std.specs.declared.io.ErrorKind.{ErrorKind}
use Rattle.std.specs.declared.io.ErrorKind.TheVariants.{OutOfMemory}
use Rattle.std.specs.declared.io.buffered.BufReader.{BufReader}
use Rattle.std.specs.declared.string.String.{String}
use Rattle.std.specs.declared.vec.IntoIter.{IntoIter}
use Rattle.ctd_source.specs.declared.from_read.FromRead.{FromRead}
use Rattle.ctd_source.specs.declared.source.Source as sources
use Rattle.ctd_source.specs.declared.limits.TheConstants.{WINDOW}
use Rattle.ctd_source.specs.TestData.{TestData}
use Rattle.ctd_source.specs.Agreement.{Agrees}
use Rattle.ctd_source.specs.SourceReads.{GaveBytes}
use Rattle.ctd_token.specs.declared.fault.LoadFault.{LoadFault}
use Rattle.ctd_token.specs.declared.limits.TheConstants.{PROGRAM_LIMIT}
use Rattle.ctd_program.specs.Tree.{CommandList}
use Rattle.ctd_loader.specs.Loading.{Loads, MayFail}
use Rattle.ctd_check.specs.Run.{Meaning, meaning}
use Rattle.ctd_arguments.specs.declared.setup.Setup.{Setup}
use Rattle.ctd_arguments.specs.declared.setup.UsageFault.{UsageFault}
use Rattle.ctd_arguments.specs.declared.setup.UsageFault.TheVariants.{Memory, Words}
use Rattle.ctd_arguments.specs.Settings.{IsSetup}
use Rattle.ctd_arguments.specs.Usage.{IsUsageFault}
use Rattle.ctd_report.specs.declared.sink.Sink as sinks
use Rattle.ctd_report.specs.declared.sink.ToWrite.{ToWrite}
use Rattle.ctd_report.specs.Writer.{new_sink}
use Rattle.ctd_report.specs.Report.{Report, check_report, load_report, open_report, usage_report}
use Rattle.ctd_report.specs.Written.{BeforeAfter, before_after, EndsWithReport}
use Rattle.ctd_process.specs.declared.host.Files as files
use Rattle.ctd_process.specs.declared.host.Host as hosts
use Rattle.ctd_process.specs.Words.{Args, words_in}
use Rattle.ctd_process.specs.Process.{Begins, StartsOn}
use Rattle.ctd_tool.specs.declared.files.Sources.{Sources}
use Rattle.ctd_tool.specs.declared.host.Answered.{Answered}

-- I. The report of a program and data that two sources give.

-- a source gave so many bytes of the data of a run, and the report is that of its outcome: all that the run consumes was given, and at most a window more
pub record ReportsRun (quiet : Bool) (given : ℕ) (report : Report) (m : Meaning) : Type 0 where
  pub report_is : report ≡ check_report quiet m.outcome
  pub behind : m.consumed ≤ given
  pub ahead : given ≤ m.consumed + WINDOW

-- the program's source gave the text of this program; the report is that of its meaning on all data under the limit that agree with the bytes that the data's source gave and with what was seen of its end
pub record ReportsMeaning {P D : Type 0} {G : sources.Ghosts P} {H : sources.Ghosts D} (s : Setup) (program : BeforeAfter P G) (testdata : BeforeAfter D H) (report : Report) : Type 0 where
  pub tree : CommandList
  pub text : List ℕ
  pub gave_text : GaveBytes G program.old program.new text
  pub loads : Loads text (G.seen program.new) tree
  pub bytes : List ℕ
  pub gave : GaveBytes H testdata.old testdata.new bytes
  pub within : length bytes ≤ s.limits.bytes + 1
  pub means : (d : TestData) → d.limit ≡ s.limits.bytes → Agrees bytes (H.seen testdata.new) d → ReportsRun s.quiet (length bytes) report (meaning s.mode tree s.presets d s.limits.steps)

-- the program's source gave a text that may have this fault, and the data are not touched
pub record ReportsFault {P D : Type 0} {G : sources.Ghosts P} {H : sources.Ghosts D} (program : BeforeAfter P G) (testdata : BeforeAfter D H) (report : Report) : Type 0 where
  pub fault : LoadFault
  pub text : List ℕ
  pub gave_text : GaveBytes G program.old program.new text
  pub within : length text ≤ PROGRAM_LIMIT + 1
  pub fails : MayFail text (G.seen program.new) fault
  pub untouched : testdata.new ≡ testdata.old
  pub report_is : report ≡ load_report fault

-- the report is that of the program's meaning, or of a fault of the program
pub data IsReport {P D : Type 0} {G : sources.Ghosts P} {H : sources.Ghosts D} (s : Setup) (program : BeforeAfter P G) (testdata : BeforeAfter D H) (report : Report) : Type 0 where
  of_meaning : ReportsMeaning s program testdata report → IsReport s program testdata report
  of_program_fault : ReportsFault program testdata report → IsReport s program testdata report

-- II. The report of files.

-- data of this name are that file, and data with no name are standard input
abbrev pub OpensTestdata : {F R : Type 0} → files.Ghosts F R → Option (List ℕ) → F → R → F → Type 0
OpensTestdata A None old testdata new = A.takes_input old testdata new
OpensTestdata A (Some name) old testdata new = A.opens old name (Some testdata) new

-- first the program was opened, and then the data
pub record OpensBoth {F R : Type 0} {A : files.Ghosts F R} (v : BeforeAfter F A) (s : Setup) (program testdata : R) : Type 0 where
  pub between : F
  pub program_is : A.opens v.old s.program (Some program) between
  pub testdata_is : OpensTestdata A s.testdata between testdata v.new

-- the program was opened, and then the data could not be
pub record RefusesTestdata {F R : Type 0} {A : files.Ghosts F R} (v : BeforeAfter F A) (s : Setup) (name : List ℕ) : Type 0 where
  pub between : F
  pub program : R
  pub program_is : A.opens v.old s.program (Some program) between
  pub name_is : s.testdata ≡ Some name
  pub refused : A.opens between name None v.new

-- which files were asked for, whatever came of it: the program, which could not be opened, or was opened, and then the data
pub data Visits {F R : Type 0} {A : files.Ghosts F R} (v : BeforeAfter F A) (s : Setup) : Type 0 where
  both : (program testdata : R) → OpensBoth v s program testdata → Visits v s
  not_the_program : A.opens v.old s.program None v.new → Visits v s
  not_the_testdata : (name : List ℕ) → RefusesTestdata v s name → Visits v s

-- the report of a run on two readers, by what their sources gave
pub record IsRunReport {R : Type 0} (remaining : R → Option (List ℕ)) (G : sources.Ghosts (FromRead (BufReader R Global))) (s : Setup) (program testdata : R) (left : Option (Sources R)) (report : Report) : Type 0 where
  pub old_program : FromRead (BufReader R Global)
  pub old_testdata : FromRead (BufReader R Global)
  pub starts_program : StartsOn remaining G program old_program
  pub starts_testdata : StartsOn remaining G testdata old_testdata
  pub new : Sources R
  pub new_is : left ≡ Some new
  pub reports : IsReport s (before_after G old_program new.program) (before_after G old_testdata new.testdata) report

-- both files were opened, and the report is that of a run on them; or one was not, and the report names it
pub data IsFilesReport {F R : Type 0} {A : files.Ghosts F R} (remaining : R → Option (List ℕ)) (G : sources.Ghosts (FromRead (BufReader R Global))) (s : Setup) (v : BeforeAfter F A) (left : Option (Sources R)) (report : Report) : Type 0 where
  of_run : (program testdata : R) → OpensBoth v s program testdata → IsRunReport remaining G s program testdata left report → IsFilesReport remaining G s v left report
  no_program : A.opens v.old s.program None v.new → report ≡ open_report s.program → IsFilesReport remaining G s v left report
  no_testdata : (name : List ℕ) → RefusesTestdata v s name → report ≡ open_report name → IsFilesReport remaining G s v left report

-- III. The report of a command line.

-- the words ask for a check, and the report is that of the files that they name; or they have this fault, no file was asked for, and the report is that of the fault; or no memory was left, before the files that the words name were asked for or after
pub data IsAnswer {F R : Type 0} {A : files.Ghosts F R} (remaining : R → Option (List ℕ)) (G : sources.Ghosts (FromRead (BufReader R Global))) (words : List (List ℕ)) (v : BeforeAfter F A) (left : Option (Sources R)) (report : Report) : Type 0 where
  of_files : (s : Setup) → IsSetup words s → IsFilesReport remaining G s v left report → IsAnswer remaining G words v left report
  of_words : (fault : UsageFault) → IsUsageFault words fault → v.new ≡ v.old → report ≡ usage_report fault → IsAnswer remaining G words v left report
  no_memory : (s : Setup) → IsSetup words s → Visits v s → report ≡ usage_report Memory → IsAnswer remaining G words v left report

-- IV. The process.

-- the system gave words, and the report is that of just these; or it gave none, and the report is that of bad words; or no memory was left. In the last two no file was asked for
pub data IsProcessReport {F R : Type 0} {A : files.Ghosts F R} (remaining : R → Option (List ℕ)) (G : sources.Ghosts (FromRead (BufReader R Global))) (args : Args) (v : BeforeAfter F A) (left : Option (Sources R)) (report : Report) : Type 0 where
  with_words : (given : IntoIter (String Global) Global) → args ≡ Ok given → IsAnswer remaining G (words_in given) v left report → IsProcessReport remaining G args v left report
  bad_words : (kind : ErrorKind) → args ≡ Err kind → kind ≢ OutOfMemory → v.new ≡ v.old → report ≡ usage_report Words → IsProcessReport remaining G args v left report
  no_room : v.new ≡ v.old → report ≡ usage_report Memory → IsProcessReport remaining G args v left report

-- a process asked its host for the two streams, each once, and for the words, once. Then it asked for the files of the report, and for nothing else; it wrote the report, and has its status
pub record EndsProcess {F R O E : Type 0} (h : hosts.Ghosts F O E R) (A : files.Ghosts F R) (remaining : R → Option (List ℕ)) (G : sources.Ghosts (FromRead (BufReader R Global))) (S : sinks.Ghosts (ToWrite O)) (T : sinks.Ghosts (ToWrite E)) (old new : F) (end : Answered R O E) : Type 0 where
  pub begins : Begins h old
  pub ends : EndsWithReport (before_after S (new_sink begins.out) end.out) (before_after T (new_sink begins.err) end.err) (IsProcessReport remaining G begins.args (before_after A begins.after_args new) end.sources) end.status
