use Rattle.std.proofs.Common.{◌≡◌, ◌-◌, ◌+◌, None}
use Rattle.ctd_source.specs.calls.SourceReads.{state_of}
use Rattle.ctd_source.specs.calls.Received.{AdvancesSuchThat}
use Rattle.ctd_command.specs.inner.Passing.{PassesRow}
use Rattle.ctd_command.proofs.integer.pass_digits.Given as goal

abbrev pub invariant-loop-byte : goal.invariant-loop-byte
invariant-loop-byte g l = record {
  sound : (state_of l.cursor).fault ≡ None;
  goes : AdvancesSuchThat l.initial.cursor l.cursor (λ d. PassesRow l.initial.digits l.digits d (state_of l.initial.cursor).spot.offset (state_of l.cursor).spot.offset);
}

abbrev pub decreases-loop-byte : goal.decreases-loop-byte
decreases-loop-byte g l = (state_of l.cursor).limit + 2 - (state_of l.cursor).spot.offset
