use Rattle.std.proofs.Common.{◌≡◌, ◌+◌, ◌++◌, ℕ, List, take, drop}
use Rattle.std.specs.List.{prefix_len}
use Rattle.std.specs.Char.{is_ascii_digit}
use Rattle.ctd_command.specs.inner.Summaries.{Summarizes}
use Rattle.ctd_command.proofs.digits.DigitSummary.read.Given as goal

abbrev pub invariant-loop-byte : goal.invariant-loop-byte
invariant-loop-byte l = record {
  count : l.count ≡ l.byte-index;
  front : prefix_len is_ascii_digit l.bytes ≡ l.byte-index + prefix_len is_ascii_digit (drop l.byte-index l.bytes);
  seen : (digits : List ℕ) → Summarizes l.initial.self digits → Summarizes l.seen (digits ++ take l.byte-index l.bytes);
}
