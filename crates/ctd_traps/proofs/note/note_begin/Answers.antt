use Rattle.ctd_traps.proofs.Common.{begins}
use Rattle.ctd_traps.proofs.Noting.{noted_more, part_trans}
use Rattle.ctd_traps.proofs.note.note_begin.Goals as goal

pub returns : goal.returns
returns c =
    let g = c.args.context in
    let middle = c.note_event.new.noted in
    let noted = c.note_states.new.noted in
    let first = c.in_ok-note_event.ensures in
    let second = c.in_ok-note_states.ensures in
    record {
      more = part_trans g c.args.noted.now middle noted (first.more g) second.more;
      begun = record {
        begun = noted_more g middle noted c.args.place begins c.args.states.now second.more (first.event g);
        found = second.found;
      };
    }
