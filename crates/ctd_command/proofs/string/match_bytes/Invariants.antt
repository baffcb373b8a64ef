use Rattle.std.proofs.Common.{◌≡◌, None, length}
use Rattle.ctd_source.specs.calls.SourceReads.{state_of}
use Rattle.ctd_source.specs.calls.Received.{AdvancesSuchThat}
use Rattle.ctd_store.specs.Store.{Bindings}
use Rattle.ctd_program.specs.declared.mode.Mode.{Mode}
use Rattle.ctd_command.specs.Commands.{match_bytes}
use Rattle.ctd_command.proofs.Strings.{at_offset}
use Rattle.ctd_command.proofs.string.match_bytes.Given as goal

-- to match the rest is what is left of matching the whole
abbrev pub invariant-loop-rest : goal.invariant-loop-rest
invariant-loop-rest g l = record {
  sound : (state_of l.cursor).fault ≡ None;
  goes : AdvancesSuchThat l.initial.cursor l.cursor
      (λ d. (store : Bindings) (mode : Mode) → match_bytes l.bytes d (at_offset l.initial.cursor.spot.offset store mode) ≡ match_bytes l.rest d (at_offset l.cursor.spot.offset store mode));
}

abbrev pub decreases-loop-rest : goal.decreases-loop-rest
decreases-loop-rest g l = length l.rest
