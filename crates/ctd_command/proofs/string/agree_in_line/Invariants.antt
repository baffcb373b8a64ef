use Rattle.std.proofs.Common.{◌≡◌, true, take}
use Rattle.std.specs.Prelude.{count_by}
use Rattle.ctd_source.specs.TestData.{is_newline}
use Rattle.ctd_command.proofs.string.agree_in_line.Given as goal

abbrev pub invariant-loop-i : goal.invariant-loop-i
invariant-loop-i l = l.agree ≡ true → (take l.i l.wanted ≡ take l.i l.bytes) × (count_by is_newline (take l.i l.bytes) ≡ 0)
