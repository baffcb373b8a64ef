use Rattle.ctd_traps.proofs.Common.{drop, has_key, key_of}
use Rattle.ctd_traps.proofs.Absent.{LeftOr}
use Rattle.ctd_traps.proofs.never.keys_of.Given as goal

abbrev pub invariant-loop-note : goal.invariant-loop-note
invariant-loop-note l = LeftOr (drop l.note-index l.notes) l.notes (λ x. has_key l.keys (key_of x))
