use Rattle.ctd_traps.proofs.Common.{NotedIn, answers, false, subst, true}
use Rattle.ctd_traps.proofs.Noting.{begun_more, faults_more, part_trans}
use Rattle.ctd_traps.proofs.simple.ask.Goals as goal

pub returns : goal.returns
returns c =
    let g = c.args.context in
    let place = c.args.place in
    let divided = c.in_ok-divided.divided in
    let begun = c.note_begin.new.noted in
    let reported = c.note_faults.new.noted in
    let noted = c.note_answers.new.noted in
    let first = c.in_ok-note_begin.ensures in
    let second = c.in_ok-note_faults.ensures in
    let third = c.in_ok-note_answers.ensures in
    let later = part_trans g begun reported noted (second.more g) (third.more g) in
    record {
      more = part_trans g c.args.noted.now begun noted first.more later;
      asks = record {
        divides = c.in_ok-divided.ensures;
        begun = begun_more g begun noted place c.args.states.now later first.begun;
        true_noted = subst (NotedIn g noted place (answers true)) c.as_slice.ensures.value (third.on_true g);
        false_noted = subst (NotedIn g noted place (answers false)) c.as_slice-2.ensures.value (third.on_false g);
        faults_noted = faults_more g reported noted place divided.faults (third.more g) second.faults;
      };
    }
