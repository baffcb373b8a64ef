use Rattle.ctd_states.proofs.NamedValues.{entry_value}
use Rattle.ctd_states.proofs.value.abstract_value.Goals as goal

pub returns-in-Some : goal.returns-in-Some
returns-in-Some c = record { tells = entry_value c.args.names.now c.args.entries.now c.in-Some.i _ c.args.name.now c.in-Some.ensures.inside c.in-Some.ensures.named }
