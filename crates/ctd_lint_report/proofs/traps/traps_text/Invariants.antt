use Rattle.ctd_lint_report.proofs.Common.{Bool, Trap, drop, is_told, kept, kept_traps, reason_of, traps_lines, ◌++◌, ◌≡◌}
use Rattle.ctd_lint_report.proofs.traps.traps_text.Given as goal

abbrev pub invariant-loop-trap : goal.invariant-loop-trap
invariant-loop-trap l =
    let told : Trap → Bool = is_told (kept l.setup.ignored.items l.found) in
    l.text.items ++ traps_lines l.setup.form l.file (reason_of l.names) (kept_traps l.setup told (drop l.trap-index l.traps)) ≡ traps_lines l.setup.form l.file (reason_of l.names) (kept_traps l.setup told l.traps)
