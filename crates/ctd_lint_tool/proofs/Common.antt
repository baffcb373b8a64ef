-- What the proofs take from elsewhere.
pub use Rattle.clap.proofs.WalkLemmas.{raw_values-rows}
pub use Rattle.clap.specs.Built.{AddsArg, AddsInTurn}
pub use Rattle.clap.specs.Simple.{app_of_fields, on_top}
pub use Rattle.clap.specs.Words.{App, FailsBy, Row, Text, all_of, app_of, fault_of, first_of, found_of, is_simple, is_simple_and_free, matches_of, rows_of, with_rule}
pub use Rattle.clap.specs.declared.builder.arg.Arg.{Arg}
pub use Rattle.clap.specs.declared.error.Error.{Error}
pub use Rattle.clap.specs.declared.parser.matches.ArgMatches.{ArgMatches}
pub use Rattle.ctd_arguments.specs.Usage.{ArePresetsOf}
pub use Rattle.ctd_arguments.specs.calls.Usage.{HasNoPresets, is_on}
pub use Rattle.ctd_arguments.specs.declared.setup.UsageFault.{UsageFault}
pub use Rattle.ctd_lint_report.specs.calls.Kinds.{lint_kind_named}
pub use Rattle.ctd_lint_report.specs.calls.Report.{AreRemarks, unopened_report}
pub use Rattle.ctd_lint_report.specs.declared.setup.LintSetup.{LintSetup}
pub use Rattle.ctd_lint_tool.specs.calls.CommandLine.{AreKindsOf, IsTaken, bare_linter, form_by, found_in}
pub use Rattle.ctd_lint_tool.specs.calls.FileReport.{not_opened, of_program, usage_report}
pub use Rattle.ctd_lint_tool.specs.calls.Opening.{WasAskedFor, handed_back, not_read}
pub use Rattle.ctd_lint_tool.specs.calls.Run.{EndsArgs, EndsIn, EndsInFault, EndsWords, FailsMidwayAt, IsReportOf, Lints, Means, RunsOutAt, Stand, bad_words, broken_run, no_memory, no_program, no_room, of_fault, of_programs, one_more, stand, whole_run, with_words}
pub use Rattle.ctd_lint_tool.specs.calls.Usage.{IsLintFault, TellsUnknown, first_unknown, lint_fault, unknown_in}
pub use Rattle.ctd_lint_tool.specs.declared.command_line.LintFault.{LintFault}
pub use Rattle.ctd_lint_tool.specs.inner.Run.{LeavesRun}
pub use Rattle.ctd_lint_tool.specs.inner.Usage.{IsFoundIn}
pub use Rattle.ctd_process.specs.Words.{Args}
pub use Rattle.ctd_program.specs.declared.preset.Preset.{Preset}
pub use Rattle.ctd_report.proofs.EndLemmas.{EndsWithReport-weaker, breaks_off}
pub use Rattle.ctd_report.proofs.WrittenLemmas.{Leaves-WritesOneOf, WritesOneOf-weaker}
pub use Rattle.ctd_report.specs.Report.{Report, on_err, on_out}
pub use Rattle.ctd_report.specs.Written.{BeforeAfter, EndsWithReport, FailsMidway, WritesOneOf, before_after, broken_off, whole}
pub use Rattle.ctd_report.specs.calls.Written.{Leaves}
pub use Rattle.ctd_report.specs.declared.sink.Sink.{Ghosts}
pub use Rattle.ctd_report.specs.declared.written.ToolFault.{ToolFault}
pub use Rattle.ctd_report.specs.declared.written.ToolFault.TheVariants.{Memory, Write}
pub use Rattle.std.proofs.Common.{All, Err, IsUtf8, List, None, Ok, Option, Result, Some, [], ap, ap₂, codes, drop, false, inl, inr, is_some, lit<, map, max, refl, rules, subst, sym, take, true, ℕ, ◌+◌, ◌∙◌, ◌∷◌, ◌≡◌, ◌≢◌, ◌⊎◌}
pub use Rattle.std.proofs.lemmas.Iterator.Consumers.{map_from_collect}
pub use Rattle.std.proofs.lemmas.Iterator.Splits.{YieldsList-from_str_split}
pub use Rattle.std.proofs.lemmas.List.{drop_more}
pub use Rattle.std.proofs.lemmas.Result.{IfErr-weaker, IfOk-weaker}
pub use Rattle.std.specs.Borrow.{Bor}
pub use Rattle.std.specs.Prelude.{IfErr}
pub use Rattle.std.specs.Result.{IsErr, IsErrAnd}
pub use Rattle.std.specs.declared.io.ErrorKind.{ErrorKind}
pub use Rattle.std.specs.declared.io.ErrorKind.TheVariants.{OutOfMemory}
