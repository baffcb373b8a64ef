use Rattle.std.proofs.Common.{◌≡◌, ◌≤◌, ◌+◌, ◌-◌, drop, nat_eq}
use Rattle.std.specs.List.{common_prefix_len}
use Rattle.ctd_command.proofs.string.first_difference.Given as goal

abbrev pub invariant-loop-count : goal.invariant-loop-count
invariant-loop-count l = record {
  within : l.count ≤ l.most;
  agree : common_prefix_len nat_eq l.wanted l.bytes ≡ l.count + common_prefix_len nat_eq (drop l.count l.wanted) (drop l.count l.bytes);
}

abbrev pub decreases-loop-count : goal.decreases-loop-count
decreases-loop-count l = l.most - l.count
