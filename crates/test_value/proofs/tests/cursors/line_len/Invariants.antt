use Rattle.std.proofs.Common.{◌≡◌, take, count_by}
use Rattle.ctd_source.specs.TestData.{is_newline}
use Rattle.test_value.proofs.tests.cursors.line_len.Given as goal

abbrev pub invariant-loop-byte : goal.invariant-loop-byte
invariant-loop-byte l = record { count : l.count ≡ l.byte-index; in_line : count_by is_newline (take l.count l.bytes) ≡ 0 }
