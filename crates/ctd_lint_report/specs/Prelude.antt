-- What the definitions take from elsewhere.
pub use Rattle.ctd_findings.specs.calls.Findings.{IsPlaced, IsTrueOfRuns, places_of}
pub use Rattle.ctd_findings.specs.calls.Kinds.{kind_named, kind_row}
pub use Rattle.ctd_findings.specs.declared.finding.Finding.{Finding}
pub use Rattle.ctd_findings.specs.declared.finding.Remark.{Remark}
pub use Rattle.ctd_findings.specs.declared.kind.Kind.{Kind}
pub use Rattle.ctd_findings.specs.declared.kind.Rank.{Rank}
pub use Rattle.ctd_guarantees.specs.calls.Guarantees.{IsGuaranteed}
pub use Rattle.ctd_guarantees.specs.declared.guarantee.GuaranteeGroup.{GuaranteeGroup}
pub use Rattle.ctd_guarantees.specs.declared.part.Guarantee.{Guarantee}
pub use Rattle.ctd_lint_report.specs.declared.kind.LintKind.{LintKind}
pub use Rattle.ctd_lint_report.specs.declared.setup.Form.{Form}
pub use Rattle.ctd_lint_report.specs.declared.setup.LintSetup.{LintSetup}
pub use Rattle.ctd_loader.specs.Loading.{Loads, MayFail}
pub use Rattle.ctd_program.specs.Tree.{CommandList}
pub use Rattle.ctd_program.specs.declared.preset.Preset.{Preset}
pub use Rattle.ctd_report.specs.Report.{Report, on_err, on_out}
pub use Rattle.ctd_report.specs.Written.{BeforeAfter}
pub use Rattle.ctd_source.specs.SourceReads.{GaveBytes}
pub use Rattle.ctd_source.specs.declared.source.Source.{Ghosts}
pub use Rattle.ctd_states.specs.declared.faults.Operand.{Operand}
pub use Rattle.ctd_states.specs.declared.faults.TrapKind.{TrapKind}
pub use Rattle.ctd_token.specs.declared.fault.LoadFault.{LoadFault}
pub use Rattle.ctd_token.specs.declared.limits.TheConstants.{PROGRAM_LIMIT}
pub use Rattle.ctd_token.specs.declared.text.Place.{Place}
pub use Rattle.ctd_traps.specs.calls.Events.{NeverHappens, events_of}
pub use Rattle.ctd_traps.specs.calls.Traps.{HasEachTrap, faults_of}
pub use Rattle.ctd_traps.specs.declared.note.EventKind.{EventKind}
pub use Rattle.ctd_traps.specs.declared.note.Note.{Note}
pub use Rattle.ctd_traps.specs.declared.program.TrapList.{TrapList}
pub use Rattle.ctd_traps.specs.declared.trap.Trap.{Trap}
pub use Rattle.std.specs.Borrow.{Bor}
pub use Rattle.std.specs.Char.{digit_char}
pub use Rattle.std.specs.Fmt.{decimal, signed_decimal}
pub use Rattle.std.specs.List.{list_any, slice_get}
pub use Rattle.std.specs.Ordering.{int_eq}
pub use Rattle.std.specs.Str.{bytes_eq}
