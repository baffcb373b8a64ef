-- What is written to the two streams, and the status.
use Rattle.std.specs.Prelude.{ℕ, Bool, List, [], ◌++◌, codes, if◌then◌else◌}
use Rattle.ctd_source.specs.SpotText.{spot_text}
use Rattle.ctd_token.specs.FaultText.{load_fault_text}
use Rattle.ctd_token.specs.declared.fault.LoadFault.{LoadFault}
use Rattle.ctd_outcome.specs.ReasonText.{fault_text, reason_text}
use Rattle.ctd_outcome.specs.OutcomeText.{site_text}
use Rattle.ctd_outcome.specs.declared.outcome.Outcome.{Outcome}
use Rattle.ctd_outcome.specs.declared.outcome.Outcome.TheVariants.{Accepted, Rejected, Stopped}
use Rattle.ctd_arguments.specs.declared.setup.UsageFault.{UsageFault}
use Rattle.ctd_arguments.specs.declared.setup.UsageFault.TheVariants as usage

-- what is written to standard output and to standard error, and the status
pub record Report : Type 0 where
  pub out : List ℕ
  pub err : List ℕ
  pub status : ℕ

-- a text on standard output, with a status
abbrev pub on_out : List ℕ → ℕ → Report
on_out text status = record { out = text; err = []; status = status }

-- a text on standard error, with the status of a fault
abbrev pub on_err : List ℕ → Report
on_err text = record { out = []; err = text; status = 2 }

-- the report of a check: a verdict goes to standard output, unless the run is quiet, and a fault to standard error
abbrev pub check_report : Bool → Outcome → Report
check_report quiet Accepted = on_out (if quiet then [] else codes "testdata ok!\n") 0
check_report quiet (Rejected spot place reason) =
    on_out (if quiet then [] else spot_text spot ++ codes ": " ++ reason_text reason ++ codes " (" ++ site_text place ++ codes ")\n") 1
check_report quiet (Stopped spot place fault) =
    on_err (codes "checktestdata: " ++ spot_text spot ++ codes ": " ++ fault_text fault ++ codes " (" ++ site_text place ++ codes ")\n")

-- the report of a program that is not read
abbrev pub load_report : LoadFault → Report
load_report fault = on_err (codes "checktestdata: " ++ load_fault_text fault ++ codes "\n")

-- the report of a file that can't be opened
abbrev pub open_report : List ℕ → Report
open_report name = on_err (codes "checktestdata: cannot open " ++ name ++ codes "\n")

-- the text of the help
abbrev pub help_text : List ℕ
help_text = codes "Usage: checktestdata [OPTION]... PROGRAM [TESTDATA]\nCheck TESTDATA (or standard input) against PROGRAM.\n  -g, --generate                     not supported\n  -D, --define=<name>=<value>[,...]  preset variables\n  -q, --quiet                        write nothing to standard output\n  -w, --whitespace-ok                accept changes of whitespace\n      --max-steps=N                  stop after N steps\n      --help                         show this text\n      --version                      show the version\n"

-- the report of words that give no settings: what was asked for goes to standard output, and a fault to standard error
abbrev pub usage_report : UsageFault → Report
usage_report usage.Words = on_err (codes "checktestdata: bad arguments\nTry 'checktestdata --help'.\n")
usage_report usage.BadSteps = on_err (codes "checktestdata: bad step limit\n")
usage_report usage.BadPreset = on_err (codes "checktestdata: bad preset\n")
usage_report usage.Generate = on_err (codes "checktestdata: generating test data is not supported\n")
usage_report usage.Help = on_out help_text 0
usage_report usage.Version = on_out (codes "checktestdata 1.0 (whole-number profile)\n") 0
usage_report usage.Memory = on_err (codes "checktestdata: out of memory\n")
