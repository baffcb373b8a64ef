use Rattle.std.proofs.Common.{◌≡◌, ◌≤◌, ◌-◌, if◌then◌else◌, length, drop}
use Rattle.ctd_token.specs.Cut.{skip_gap, skip_comment}
use Rattle.ctd_token.proofs.scan.gap_len.Given as goal

abbrev pub invariant-loop-n : goal.invariant-loop-n
invariant-loop-n l = record {
  within : l.n ≤ length l.bytes;
  skipped : (if l.in_comment then skip_comment (drop l.n l.bytes) else skip_gap (drop l.n l.bytes)) ≡ skip_gap l.bytes;
}

abbrev pub decreases-loop-n : goal.decreases-loop-n
decreases-loop-n l = length l.bytes - l.n
