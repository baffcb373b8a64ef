use Rattle.ctd_lint_report.proofs.Common.{None, drop, places_behind, ◌+◌, ◌≡◌, ◌≤◌}
use Rattle.ctd_lint_report.proofs.traps.count_places.Given as goal

abbrev pub invariant-loop-trap : goal.invariant-loop-trap
invariant-loop-trap l = record {
  counted : l.count + places_behind l.before (drop l.trap-index l.traps) ≡ places_behind None l.traps;
  few : l.count ≤ l.trap-index;
}
