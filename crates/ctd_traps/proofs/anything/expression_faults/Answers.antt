use Rattle.ctd_traps.proofs.Failing.{made_of_nothing}
use Rattle.ctd_traps.proofs.anything.expression_faults.Goals as goal

pub returns : goal.returns
returns c = made_of_nothing c.no_faults.result
