-- Which fault the words have.
use Rattle.ctd_lint_tool.specs.declared.command_line.LintFault.TheVariants as faults
use Rattle.std.specs.Prelude.{◌≡◌, ◌⊎◌, true, List, [], ◌∷◌, Option, None, Some, All, IsUtf8, codes, find, is_none, is_some}
use Rattle.clap.specs.Words.{IsAmong, Text, all_of, first_of}
use Rattle.clap.specs.declared.error.ErrorKind.{ErrorKind}
use Rattle.ctd_program.specs.declared.preset.Preset.{Preset}
use Rattle.ctd_arguments.specs.declared.setup.UsageFault.{UsageFault}
use Rattle.ctd_arguments.specs.declared.setup.UsageFault.TheVariants as usage
use Rattle.ctd_arguments.specs.Usage.{ArePresetsOf, fault_by_kind}
use Rattle.ctd_arguments.specs.calls.Usage.{HasNoPresets}
use Rattle.ctd_lint_tool.specs.declared.command_line.LintFault.{LintFault}
use Rattle.ctd_lint_tool.specs.calls.CommandLine.{errors_in, found_in, parts}
use Rattle.ctd_lint_report.specs.calls.Kinds.{lint_kind_named}

-- the fault here that a fault of the checker's words is; this command line has neither steps nor a flag to generate
abbrev pub lint_fault : UsageFault → LintFault
lint_fault usage.Help = faults.Help
lint_fault usage.Version = faults.Version
lint_fault usage.BadPreset = faults.BadPreset
lint_fault usage.Memory = faults.Memory
lint_fault usage.Words = faults.Words
lint_fault usage.BadSteps = faults.Words
lint_fault usage.Generate = faults.Words

-- this is the fault of a kind of error that clap finds in the words
abbrev pub IsFaultOfClap : List Text → LintFault → Type 0
IsFaultOfClap words f = (kind : ErrorKind) × IsAmong kind (errors_in words) × (lint_fault (fault_by_kind kind) ≡ f)

-- the first of some names that no kind of findings or traps has
abbrev pub first_unknown : List Text → Option Text
first_unknown names = find (λ name. is_none (lint_kind_named name)) names

-- the same, where the names stand in a text, with commas between them
abbrev pub unknown_in : Option Text → Option Text
unknown_in None = None
unknown_in (Some text) = first_unknown (parts text)

-- there is such a name, and the fault tells it
abbrev pub TellsUnknown : Option Text → LintFault → Type 0
TellsUnknown found f = (name : Text) × (found ≡ Some name) × (f ≡ faults.UnknownKind name)

-- a rule for the words, and the fault for breaking it
pub record FaultRule : Type 1 where
  -- the words keep the rule
  pub IsKept : Type 0
  -- the words break the rule
  pub IsBroken : Type 0
  -- words that break it have this fault
  pub Gives : LintFault → Type 0

-- each word is UTF-8
abbrev pub utf8_rule : List Text → FaultRule
utf8_rule words = record { IsKept = All IsUtf8 words; IsBroken = ¬ (All IsUtf8 words); Gives = λ f. f ≡ faults.Words }

-- clap finds no error in the words, of which a request for the help or the version is one
abbrev pub clap_rule : List Text → FaultRule
clap_rule words =
    let kinds = errors_in words in
    record { IsKept = kinds ≡ []; IsBroken = ¬ (kinds ≡ []); Gives = IsFaultOfClap words }

-- one program is named, or more
abbrev pub program_rule : List Text → FaultRule
program_rule words =
    let names = all_of (codes "PROGRAM") (found_in words) in
    record { IsKept = is_some names ≡ true; IsBroken = names ≡ None; Gives = λ f. f ≡ faults.Words }

-- the text of the presets, if there is one, spells presets
abbrev pub preset_rule : List Text → FaultRule
preset_rule words =
    let given = first_of (codes "define") (found_in words) in
    record { IsKept = (presets : List Preset) × ArePresetsOf given presets; IsBroken = HasNoPresets given; Gives = λ f. f ≡ faults.BadPreset }

-- each kind that is left out is one; the first that is none is told
abbrev pub kinds_rule : List Text → FaultRule
kinds_rule words =
    let unknown = unknown_in (first_of (codes "ignore") (found_in words)) in
    record { IsKept = unknown ≡ None; IsBroken = is_some unknown ≡ true; Gives = TellsUnknown unknown }

-- the rules, in the order in which they are tried
abbrev pub fault_rules : List Text → List FaultRule
fault_rules words = utf8_rule words ∷ clap_rule words ∷ program_rule words ∷ preset_rule words ∷ kinds_rule words ∷ []

-- the first rule that is broken gives the fault: all before it are kept
abbrev pub GivesFirst : List FaultRule → LintFault → Type 0
GivesFirst [] f = ⊥
GivesFirst (rule ∷ later) f = (rule.IsBroken × rule.Gives f) ⊎ (rule.IsKept × GivesFirst later f)

-- the words have this fault by the rules; memory may run out whatever the words
abbrev pub IsLintFault : List Text → LintFault → Type 0
IsLintFault words f = GivesFirst (fault_rules words) f ⊎ (f ≡ faults.Memory)
