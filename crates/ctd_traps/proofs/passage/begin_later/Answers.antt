use Rattle.ctd_traps.proofs.Common.{AreNoted, NotedIn, answers, false, subst, true}
use Rattle.ctd_traps.proofs.Noting.{faults_more, found_more, noted_more, part_trans}
use Rattle.ctd_traps.proofs.passage.begin_later.Goals as goal
use Rattle.ctd_traps.specs.declared.joined.Moment.TheVariants as moments

pub returns : goal.returns
returns c =
    let g = c.args.context in
    let place = c.args.place in
    let marked = c.note_states.new.noted in
    let reported = c.note_faults.new.noted in
    let middle = c.note_answers.new.noted in
    let noted = c.note_answers-2.new.noted in
    let zeroth = c.in_ok-note_states.ensures in
    let first = c.in_ok-note_faults.ensures in
    let second = c.in_ok-note_answers.ensures in
    let third = c.in_ok-note_answers-2.ensures in
    let later = part_trans g reported middle noted (second.more g) (third.more g) in
    let every : AreNoted noted place c.union-faults.result = faults_more g reported noted place c.union-faults.result later first.faults in
    let begun = c.args.begun.now.first in
    record {
      more = part_trans g c.args.noted.now marked noted zeroth.more (part_trans g marked reported noted (first.more g) later);
      begins = record {
        ended = found_more g marked noted place moments.TurnEnded c.args.candidate.now (part_trans g marked reported noted (first.more g) later) zeroth.found;
        enters = c.in_ok-later.ensures;
        start_noted = λ j why of_value is. every j why of_value (c.union-faults.ensures.first why is);
        first_noted = λ j why of_value is. every j why of_value (c.union-faults.ensures.second why (c.union.ensures.first why is));
        later_noted = λ j why of_value is. every j why of_value (c.union-faults.ensures.second why (c.union.ensures.second why is));
        first_true = noted_more g middle noted place (answers true) begun.inside.items (third.more g) (subst (NotedIn g middle place (answers true)) c.as_slice.ensures.value (second.on_true g));
        first_false = noted_more g middle noted place (answers false) begun.outside.items (third.more g) (subst (NotedIn g middle place (answers false)) c.as_slice-2.ensures.value (second.on_false g));
        later_true = subst (NotedIn g noted place (answers true)) c.as_slice-3.ensures.value (third.on_true g);
        later_false = subst (NotedIn g noted place (answers false)) c.as_slice-4.ensures.value (third.on_false g);
      };
    }
