use Rattle.ctd_traps.proofs.note.note_turn.Goals as goal

pub returns : goal.returns
returns c = record { more = c.in_ok-note_states.ensures.more; ended = λ j is. c.in_ok-note_states.ensures.found }
