use Rattle.ctd_lint_report.proofs.Common.{drop, flat_map, literal_byte, ◌++◌, ◌≡◌}
use Rattle.ctd_lint_report.proofs.expression.write_literal_bytes.Given as goal

abbrev pub invariant-loop-byte : goal.invariant-loop-byte
invariant-loop-byte l = l.text.items ++ flat_map literal_byte (drop l.byte-index l.bytes) ≡ l.initial.text.items ++ flat_map literal_byte l.bytes
