use Rattle.std.proofs.Common.{arith}
use Rattle.std.proofs.lemmas.Grind.{common_steps}
use Rattle.ctd_syntax.proofs.nesting.Nesting.pass.Goals as goal

pub returns-clause-light : goal.returns-clause-light
returns-clause-light c = grind (arith, common_steps)

pub overflow_sub-self : goal.overflow_sub-self
overflow_sub-self c = grind (arith, common_steps)
