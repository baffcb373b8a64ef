use Rattle.std.proofs.Common.{arith}
use Rattle.std.proofs.lemmas.Grind.{common_steps}
use Rattle.ctd_value.proofs.assign.set_variable.Goals as goal

pub returns-in_ok-assign_at-in-Some-Some-clause-value : goal.returns-in_ok-assign_at-in-Some-Some-clause-value
returns-in_ok-assign_at-in-Some-Some-clause-value c = grind (arith, common_steps)
