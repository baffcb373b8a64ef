use Rattle.ctd_traps.proofs.Common.{AreNoted, BegunIn, NotedIn, command_tree, place_is, subst, sym}
use Rattle.ctd_traps.specs.calls.Events.{goes_on}
use Rattle.ctd_traps.proofs.Noting.{faults_more}
use Rattle.ctd_traps.proofs.Walking.{acts_step}
use Rattle.ctd_traps.proofs.simple.take.Goals as goal

pub returns : goal.returns
returns c =
    let g = c.args.context in
    let command = c.args.command.now in
    let acted = c.in_ok-acted.acted in
    let reported = c.note_faults.new.noted in
    let noted = c.note_run.new.noted in
    let states = c.args.states.now in
    let after = acted.after.items in
    let run = c.in_ok-note_run.ensures in
    let same = sym (place_is command.action command.place) in
    record {
      more = λ place event is. run.more place event (c.in_ok-note_faults.ensures.more g place event is);
      keeps = acts_step g states after acted.faults (command_tree command) noted c.in_ok-acted.ensures
          (subst (λ p. BegunIn g noted p states) same run.begun)
          (subst (λ p. NotedIn g noted p goes_on after) same (subst (NotedIn g noted command.place goes_on) c.as_slice.ensures.value (run.gone g)))
          (subst (λ p. AreNoted noted p acted.faults) same (faults_more g reported noted command.place acted.faults run.more c.in_ok-note_faults.ensures.faults));
    }
