-- The texts of reports, apart from the streams that they go to.
use Rattle.std.specs.Prelude.{ℕ, List, [], ◌++◌, codes, Option}
use Rattle.std.specs.Option.{option_map_or}
use Rattle.ctd_source.specs.SpotText.{spot_text}
use Rattle.ctd_token.specs.declared.text.Place.{Place}
use Rattle.ctd_token.specs.FaultText.{place_text}
use Rattle.ctd_outcome.specs.ReasonText.{fault_text, reason_text}
use Rattle.ctd_outcome.specs.OutcomeText.{site_text}
use Rattle.ctd_outcome.specs.declared.outcome.Outcome.{Outcome}
use Rattle.ctd_outcome.specs.declared.outcome.Outcome.TheVariants.{Accepted, Rejected, Stopped}
use Rattle.ctd_arguments.specs.declared.setup.UsageFault.{UsageFault}
use Rattle.ctd_arguments.specs.declared.setup.UsageFault.TheVariants as usage
use Rattle.ctd_report.specs.Report.{help_text}

-- the line of an outcome
abbrev pub outcome_line : Outcome → List ℕ
outcome_line Accepted = codes "testdata ok!\n"
outcome_line (Rejected spot place reason) = spot_text spot ++ codes ": " ++ reason_text reason ++ codes " (" ++ site_text place ++ codes ")\n"
outcome_line (Stopped spot place fault) =
    codes "checktestdata: " ++ spot_text spot ++ codes ": " ++ fault_text fault ++ codes " (" ++ site_text place ++ codes ")\n"

-- what is written for words that give no settings, to whichever stream
abbrev pub usage_text : UsageFault → List ℕ
usage_text usage.Words = codes "checktestdata: bad arguments\nTry 'checktestdata --help'.\n"
usage_text usage.BadSteps = codes "checktestdata: bad step limit\n"
usage_text usage.BadPreset = codes "checktestdata: bad preset\n"
usage_text usage.Generate = codes "checktestdata: generating test data is not supported\n"
usage_text usage.Help = help_text
usage_text usage.Version = codes "checktestdata 1.0 (whole-number profile)\n"
usage_text usage.Memory = codes "checktestdata: out of memory\n"

-- the place of a program that is not read, where there is one
abbrev pub place_prefix : Option Place → List ℕ
place_prefix place = option_map_or (λ p. place_text p ++ codes ": ") place []
