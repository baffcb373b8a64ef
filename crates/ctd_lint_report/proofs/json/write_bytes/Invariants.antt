use Rattle.ctd_lint_report.proofs.Common.{byte_text, drop, flat_map, ◌++◌, ◌≡◌}
use Rattle.ctd_lint_report.proofs.json.write_bytes.Given as goal

abbrev pub invariant-loop-byte : goal.invariant-loop-byte
invariant-loop-byte l = l.text.items ++ flat_map byte_text (drop l.byte-index l.bytes) ≡ l.initial.text.items ++ flat_map byte_text l.bytes
