use Rattle.ctd_traps.proofs.Common.{NotedIn, answers, false, subst, true}
use Rattle.ctd_traps.proofs.Noting.{faults_more, found_more, part_trans}
use Rattle.ctd_traps.proofs.unroll.begin_turn.Goals as goal
use Rattle.ctd_traps.specs.declared.joined.Moment.TheVariants as moments

pub returns-clause-begins : goal.returns-clause-begins
returns-clause-begins c =
    let g = c.args.context in
    let place = c.args.place in
    let marked = c.note_turn.new.noted in
    let reported = c.note_faults.new.noted in
    let noted = c.note_answers.new.noted in
    let later = c.in_ok-note_answers.ensures in
    record {
      ended = λ j is. found_more g marked noted place moments.TurnEnded c.args.states.now (part_trans g marked reported noted (c.in_ok-note_faults.ensures.more g) (later.more g)) (c.in_ok-note_turn.ensures.ended j is);
      enters = c.in_ok-begun.ensures;
      if_true = subst (NotedIn g noted place (answers true)) c.as_slice.ensures.value (later.on_true g);
      if_false = subst (NotedIn g noted place (answers false)) c.as_slice-2.ensures.value (later.on_false g);
      faults = faults_more g reported noted place c.in_ok-begun.begun.faults (later.more g) c.in_ok-note_faults.ensures.faults;
    }

pub returns-clause-more : goal.returns-clause-more
returns-clause-more c =
    let g = c.args.context in
    part_trans g c.args.noted.now c.note_turn.new.noted c.note_answers.new.noted c.in_ok-note_turn.ensures.more
    (part_trans g c.note_turn.new.noted c.note_faults.new.noted c.note_answers.new.noted (c.in_ok-note_faults.ensures.more g) (c.in_ok-note_answers.ensures.more g))
