use Rattle.ctd_traps.proofs.Failing.{made_of_expressions}
use Rattle.ctd_traps.proofs.anything.test_faults.Goals as goal

pub returns : goal.returns
returns c = made_of_expressions c.expression_faults.result c.expression_faults.ensures
