-- The options and arguments of ctd-lint, as clap defines what it takes.
use Rattle.std.specs.Prelude.{◌≡◌, Bool, List, [], Option, Some, None, true, codes, if◌then◌else◌, map, nat_eq, All, IsUtf8}
use Rattle.std.specs.List.{slice_split}
use Rattle.clap.specs.Words.{App, Row, Rule, Text, all_of, fault_of, first_of, matches_of, new_app, new_rule, with_rule}
use Rattle.clap.specs.Simple.{on_top}
use Rattle.clap.specs.declared.error.ErrorKind.{ErrorKind}
use Rattle.clap.specs.declared.builder.ArgAction.TheVariants.{Append, Set, SetTrue}
use Rattle.ctd_arguments.specs.CommandLine.{option_rule}
use Rattle.ctd_arguments.specs.Usage.{ArePresetsOf}
use Rattle.ctd_arguments.specs.calls.Usage.{is_on}
use Rattle.ctd_lint_tool.specs.declared.command_line.Setup.{Setup}
use Rattle.ctd_lint_report.specs.declared.kind.LintKind.{LintKind}
use Rattle.ctd_lint_report.specs.declared.setup.Form.{Form}
use Rattle.ctd_lint_report.specs.declared.setup.Form.TheVariants as forms
use Rattle.ctd_lint_report.specs.calls.Kinds.{lint_kind_named}

-- -D, --define
abbrev pub define_rule : Rule
define_rule = option_rule (codes "define") (Some 68) Set

-- --ignore
abbrev pub ignore_rule : Rule
ignore_rule = option_rule (codes "ignore") None Set

-- --verdicts
abbrev pub verdicts_rule : Rule
verdicts_rule = option_rule (codes "verdicts") None SetTrue

-- --guarantees
abbrev pub guarantees_rule : Rule
guarantees_rule = option_rule (codes "guarantees") None SetTrue

-- --json
abbrev pub json_rule : Rule
json_rule = option_rule (codes "json") None SetTrue

-- the names of the programs' files, of which one has to be there
abbrev pub programs_rule : Rule
programs_rule = record (new_rule (codes "PROGRAM")) { required = true; action = Some Append }

-- the command with a version and no argument
abbrev pub bare_linter : App
bare_linter = on_top (λ s. record s { has_version = true }) (new_app (codes "ctd-lint"))

-- It is opened only by name: computed at words that are not known, what clap makes of it is very large.
unfoldable pub linter : App
linter = with_rule (with_rule (with_rule (with_rule (with_rule (with_rule bare_linter define_rule) ignore_rule) verdicts_rule) guarantees_rule) json_rule) programs_rule

-- what clap finds in the words
abbrev pub found_in : List Text → List Row
found_in words = matches_of linter words

-- the errors that clap finds in them
abbrev pub errors_in : List Text → List ErrorKind
errors_in words = fault_of linter words

-- the parts of a text between commas
abbrev pub parts : Text → List Text
parts text = slice_split (λ b. nat_eq b 44) text

-- the kinds that a text names, with commas between them; none where there is no text
abbrev pub AreKindsOf : Option Text → List LintKind → Type 0
AreKindsOf None kinds = kinds ≡ []
AreKindsOf (Some text) kinds = map Some kinds ≡ map lint_kind_named (parts text)

-- the form of the reports, by whether it is to be JSON
abbrev pub form_by : Bool → Form
form_by is_json = if is_json then forms.Json else forms.Text

-- the words are texts, and clap takes them
abbrev pub IsTaken : List Text → Type 0
IsTaken words = All IsUtf8 words × (errors_in words ≡ [])

-- the words are texts that clap takes, name these programs, presets and kinds, and ask for this of verdicts and guarantees and for this form
pub record IsLintSetup (words : List Text) (s : Setup) : Type 0 where
  pub taken : IsTaken words
  pub programs : all_of (codes "PROGRAM") (found_in words) ≡ Some s.programs.items
  pub presets : ArePresetsOf (first_of (codes "define") (found_in words)) s.report.presets
  pub ignored : AreKindsOf (first_of (codes "ignore") (found_in words)) s.report.ignored.items
  pub verdicts : s.report.verdicts ≡ is_on (codes "verdicts") (found_in words)
  pub guarantees : s.report.guarantees ≡ is_on (codes "guarantees") (found_in words)
  pub form : s.report.form ≡ form_by (is_on (codes "json") (found_in words))
