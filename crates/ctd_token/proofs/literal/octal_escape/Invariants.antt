use Rattle.std.proofs.Common.{◌≡◌, ◌≤◌, ◌+◌, ◌-◌, length, drop, take}
use Rattle.std.specs.List.{prefix_len}
use Rattle.ctd_token.specs.StringLiteral.{is_octal, octal}
use Rattle.ctd_token.proofs.literal.octal_escape.Given as goal

abbrev pub invariant-loop-n : goal.invariant-loop-n
invariant-loop-n l = record {
  few : l.n ≤ 3;
  within : l.n ≤ length l.bytes;
  counted : l.n + prefix_len is_octal (drop l.n l.bytes) ≡ prefix_len is_octal l.bytes;
  read : l.value ≡ octal (take l.n l.bytes);
  none : l.n ≤ 0 → l.value ≤ 0;
  one : l.n ≤ 1 → l.value ≤ 7;
  two : l.n ≤ 2 → l.value ≤ 63;
  three : l.value ≤ 511;
}

abbrev pub decreases-loop-n : goal.decreases-loop-n
decreases-loop-n l = 3 - l.n
