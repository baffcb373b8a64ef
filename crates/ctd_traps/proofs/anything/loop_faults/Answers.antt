use Rattle.ctd_traps.proofs.Failing.{made_of_tests}
use Rattle.ctd_traps.proofs.anything.loop_faults.Goals as goal

pub returns : goal.returns
returns c = made_of_tests c.test_faults.result c.test_faults.ensures
