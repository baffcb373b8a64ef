use Rattle.ctd_traps.proofs.Noting.{begun_more}
use Rattle.ctd_traps.proofs.note.note_run.Goals as goal

pub returns : goal.returns
returns c =
    let g = c.args.context in
    let first = c.in_ok-note_begin.ensures in
    let second = c.in_ok-note_event.ensures in
    record {
      more = λ place event is. second.more g place event (first.more place event is);
      begun = begun_more g c.note_begin.new.noted c.note_event.new.noted c.args.place c.args.before.now (second.more g) first.begun;
      gone = second.event;
    }
