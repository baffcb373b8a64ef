use Rattle.ctd_traps.proofs.Common.{NeverHappens, command_trees, events_of, faults_of, refl, subst, sym}
use Rattle.ctd_traps.proofs.Absent.{none_in}
use Rattle.ctd_traps.proofs.Failing.{anything_is_listed}
use Rattle.ctd_traps.proofs.program.unknown.Goals as goal

pub returns : goal.returns
returns c =
    let program = command_trees c.args.commands.now in
    let presets = c.args.presets.now in
    record {
      each = anything_is_listed program presets (faults_of c.in_ok-traps.traps.items) c.in_ok-traps.ensures;
      never = subst (λ l. NeverHappens program presets (events_of l)) (sym c.new.ensures.items) (λ mode d steps n s t task rest place event less skipped comes happens has. none_in _ has);
      nothing = refl;
    }
