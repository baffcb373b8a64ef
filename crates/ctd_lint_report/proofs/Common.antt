-- What the proofs take from elsewhere.
pub use Rattle.ctd_findings.specs.calls.Findings.{IsPlaced, IsTrueOfRuns, places_of}
pub use Rattle.ctd_findings.specs.declared.finding.Finding.{Finding}
pub use Rattle.ctd_guarantees.specs.calls.Guarantees.{IsGuaranteed}
pub use Rattle.ctd_guarantees.specs.declared.guarantee.GuaranteeGroup.{GuaranteeGroup}
pub use Rattle.ctd_lint_report.specs.calls.Expressions.{literal_byte}
pub use Rattle.ctd_lint_report.specs.calls.Guarantees.{chain_text, guarantee_entry, may_lack, part_entry, relation_arrays}
pub use Rattle.ctd_lint_report.specs.calls.Json.{byte_text, never_object}
pub use Rattle.ctd_lint_report.specs.calls.Kinds.{is_ignored, trap_named_among}
pub use Rattle.ctd_lint_report.specs.calls.Parts.{parts_relations}
pub use Rattle.ctd_lint_report.specs.calls.Reasons.{reason_of}
pub use Rattle.ctd_lint_report.specs.calls.Report.{AreRemarks, IsLintReport, findings_status, is_told, program_report, refusal_report, remarks_of}
pub use Rattle.ctd_lint_report.specs.calls.Text.{findings_lines, kept}
pub use Rattle.ctd_lint_report.specs.calls.Traps.{AreTraps, condition_text, every_text, is_open, kept_traps, places_behind, places_text, some_element, some_shape, some_unconditional, traps_lines, verdict_status, verdict_text}
pub use Rattle.ctd_lint_report.specs.declared.kind.LintKind.{LintKind}
pub use Rattle.ctd_lint_report.specs.declared.setup.LintSetup.{LintSetup}
pub use Rattle.ctd_loader.specs.calls.Loading.{LoadsFrom}
pub use Rattle.ctd_program.specs.Tree.{CommandList}
pub use Rattle.ctd_program.specs.calls.View.{command_trees}
pub use Rattle.ctd_report.proofs.WrittenLemmas.{Leaves-WritesOneOf}
pub use Rattle.ctd_report.specs.Written.{before_after}
pub use Rattle.ctd_source.specs.declared.source.Source.{Ghosts}
pub use Rattle.ctd_token.specs.declared.fault.LoadFault.{LoadFault}
pub use Rattle.ctd_token.specs.declared.fault.LoadKind.TheVariants.{Memory}
pub use Rattle.ctd_token.specs.declared.text.Place.{Place}
pub use Rattle.ctd_traps.specs.calls.Events.{NeverHappens, events_of}
pub use Rattle.ctd_traps.specs.calls.Known.{EachAcceptedHas, EachFinds}
pub use Rattle.ctd_traps.specs.declared.program.TrapList.{TrapList}
pub use Rattle.ctd_traps.specs.declared.trap.Trap.{Trap}
pub use Rattle.std.proofs.Common.{◌∷◌, [], option_map, All, Bool, Err, IfSome, List, None, Ok, OnOk, Option, Result, Some, ap, ap₂, codes, drop, false, if◌then◌else◌, inl, inr, refl, rules, subst, sym, ℕ, ◌++◌, ◌+◌, ◌∙◌, ◌≡◌, ◌≢◌, ◌≤◌}
pub use Rattle.std.proofs.lemmas.Int.{to_z-of_z}
pub use Rattle.std.proofs.lemmas.List.{append_assoc}
pub use Rattle.std.specs.Fmt.{signed_decimal}
pub use Rattle.std.specs.Int.{w128}
pub use Rattle.std.specs.List.{flat_map, list_any}
