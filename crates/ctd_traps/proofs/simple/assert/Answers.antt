use Rattle.ctd_traps.proofs.Common.{NotedIn, subst, test_tree}
use Rattle.ctd_traps.specs.calls.Events.{goes_on}
use Rattle.ctd_traps.proofs.Noting.{part_trans}
use Rattle.ctd_traps.proofs.Walking.{asks_more, assert_steps}
use Rattle.ctd_traps.proofs.simple.assert.Goals as goal

pub returns : goal.returns
returns c =
    let g = c.args.context in
    let asked = c.in_ok-asked.asked in
    let t = test_tree c.args.t.now in
    let states = c.args.states.now in
    let if_true = asked.if_true.items in
    let if_false = asked.if_false.items in
    let reported = c.ask.new.noted in
    let noted = c.note_event.new.noted in
    record {
      more = part_trans g c.args.noted.now reported noted c.in_ok-asked.ensures.more (c.in_ok-note_event.ensures.more g);
      keeps = assert_steps g states if_true if_false asked.faults c.args.place t noted
          (asks_more g states if_true if_false t asked.faults reported noted c.args.place (c.in_ok-note_event.ensures.more g) c.in_ok-asked.ensures.asks)
          (subst (NotedIn g noted c.args.place goes_on) c.as_slice.ensures.value (c.in_ok-note_event.ensures.event g));
    }
