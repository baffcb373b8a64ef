-- What the checker answers where the program and the data are bytes in memory.
use Rattle.std.specs.Prelude.{◌≡◌, ◌⊎◌, ℕ, false, List}
use Rattle.ctd_source.specs.TestData.{TestData}
use Rattle.ctd_source.specs.declared.source.Seen.TheVariants.{Ended}
use Rattle.ctd_token.specs.declared.fault.LoadFault.{LoadFault}
use Rattle.ctd_program.specs.Tree.{CommandList}
use Rattle.ctd_loader.specs.Loading.{Loads, MayFail}
use Rattle.ctd_check.specs.Run.{meaning}
use Rattle.ctd_arguments.specs.declared.setup.Setup.{Setup}
use Rattle.ctd_arguments.specs.declared.setup.UsageFault.{UsageFault}
use Rattle.ctd_arguments.specs.declared.setup.UsageFault.TheVariants.{Memory}
use Rattle.ctd_arguments.specs.Settings.{IsSetup}
use Rattle.ctd_arguments.specs.Usage.{IsUsageFault}
use Rattle.ctd_report.specs.Report.{Report, check_report, load_report, usage_report}

-- the data are exactly these bytes, and no read of them fails
abbrev pub data_of : List ℕ → ℕ → TestData
data_of bytes limit = record { bytes = bytes; broken = false; limit = limit }

-- the text spells a program, and the report is that of the program's meaning on exactly these data
pub record ReportsMeaningOn (s : Setup) (program testdata : List ℕ) (report : Report) : Type 0 where
  pub tree : CommandList
  pub loads : Loads program Ended tree
  pub report_is : report ≡ check_report s.quiet (meaning s.mode tree s.presets (data_of testdata s.limits.bytes) s.limits.steps).outcome

-- the text has a fault, and the report is that of the fault
pub record ReportsFaultOf (program : List ℕ) (report : Report) : Type 0 where
  pub fault : LoadFault
  pub fails : MayFail program Ended fault
  pub report_is : report ≡ load_report fault

-- the report on a program and data under these settings
abbrev pub IsReportBy : Setup → (program testdata : List ℕ) → Report → Type 0
IsReportBy s program testdata report = ReportsMeaningOn s program testdata report ⊎ ReportsFaultOf program report

-- the words ask for a check, and the report is that of the check; or the words have a fault, and the report is that of the fault; or no memory was left
abbrev pub IsAnswerTo : (words : List (List ℕ)) → (program testdata : List ℕ) → Report → Type 0
IsAnswerTo words program testdata report =
    ((s : Setup) × IsSetup words s × IsReportBy s program testdata report)
    ⊎ (((fault : UsageFault) × IsUsageFault words fault × (report ≡ usage_report fault)) ⊎ (report ≡ usage_report Memory))
