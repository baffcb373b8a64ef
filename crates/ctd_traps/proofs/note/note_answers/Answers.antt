use Rattle.ctd_traps.proofs.Common.{answers, true}
use Rattle.ctd_traps.proofs.note.note_answers.Goals as goal

pub returns : goal.returns
returns c =
    let first = c.in_ok-note_event.ensures in
    let second = c.in_ok-note_event-2.ensures in
    record {
      more = λ g place event is. second.more g place event (first.more g place event is);
      on_true = λ g n h one. second.more g c.args.place (answers true) (first.event g n h one);
      on_false = second.event;
    }
