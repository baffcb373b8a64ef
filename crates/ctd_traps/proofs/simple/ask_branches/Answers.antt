use Rattle.ctd_traps.proofs.Common.{NotedIn, subst, test_tree}
use Rattle.ctd_traps.specs.calls.Events.{goes_on}
use Rattle.ctd_traps.proofs.Noting.{noted_more, part_trans}
use Rattle.ctd_traps.proofs.Walking.{asks_more}
use Rattle.ctd_traps.proofs.simple.ask_branches.Goals as goal

pub returns : goal.returns
returns c =
    let g = c.args.context in
    let place = c.args.place in
    let asked = c.in_ok-asked.asked in
    let if_true = asked.if_true.items in
    let if_false = asked.if_false.items in
    let reported = c.ask.new.noted in
    let middle = c.note_event.new.noted in
    let noted = c.note_event-2.new.noted in
    let second = c.in_ok-note_event.ensures in
    let third = c.in_ok-note_event-2.ensures in
    let later = part_trans g reported middle noted (second.more g) (third.more g) in
    record {
      more = part_trans g c.args.noted.now reported noted c.in_ok-asked.ensures.more later;
      asks = asks_more g c.args.states.now if_true if_false (test_tree c.args.t.now) asked.faults reported noted place later c.in_ok-asked.ensures.asks;
      on_true = noted_more g middle noted place goes_on if_true (third.more g) (subst (NotedIn g middle place goes_on) c.as_slice.ensures.value (second.event g));
      on_false = subst (NotedIn g noted place goes_on) c.as_slice-2.ensures.value (third.event g);
    }
