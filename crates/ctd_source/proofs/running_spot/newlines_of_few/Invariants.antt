use Rattle.std.proofs.Common.{◌≡◌, ◌≤◌, take}
use Rattle.std.specs.Prelude.{count_by}
use Rattle.ctd_source.specs.TestData.{is_newline}
use Rattle.ctd_source.proofs.running_spot.newlines_of_few.Given as goal

abbrev pub invariant-loop-byte : goal.invariant-loop-byte
invariant-loop-byte l = record { counted : l.count ≡ count_by is_newline (take l.byte-index l.bytes); within : l.count ≤ l.byte-index }
