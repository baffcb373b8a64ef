use Rattle.ctd_traps.proofs.Common.{Contains, faults_of, place_is, subst, sym}
use Rattle.ctd_traps.proofs.anything.list_command.Goals as goal

pub returns : goal.returns
returns c = record {
  more = c.in_ok-report.ensures.more;
  listed = λ why of_value among.
      subst (λ p. Contains (faults_of c.report.new.traps.items) (record { place = p; fault = why })) (sym (place_is c.args.command.now.action c.args.command.now.place))
      (c.in_ok-report.ensures.listed why of_value (c.possible_faults.ensures why among));
}
