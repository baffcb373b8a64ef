use Rattle.ctd_traps.proofs.Noting.{begun_more, part_trans}
use Rattle.ctd_traps.proofs.passage.note_start.Goals as goal

pub returns-then-not-may_start : goal.returns-then-not-may_start
returns-then-not-may_start c = record {
  more = c.in_ok-note_begin.ensures.more;
  begun = c.in_ok-note_begin.ensures.begun;
  gone = λ g h started is. absurd (c.may_start.ensures c.if-not-may_start.true g h started is);
}

pub returns : goal.returns
returns c =
    let g = c.args.context in
    let later = c.in_ok-note_event.ensures in
    record {
      more = part_trans g c.args.noted.now c.note_begin.new.noted c.note_event.new.noted c.in_ok-note_begin.ensures.more (later.more g);
      begun = begun_more g c.note_begin.new.noted c.note_event.new.noted c.args.place c.args.states.now (later.more g) c.in_ok-note_begin.ensures.begun;
      gone = λ j h started is. later.event j;
    }
