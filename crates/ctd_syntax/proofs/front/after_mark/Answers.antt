use Rattle.std.proofs.Common.{arith}
use Rattle.std.proofs.lemmas.Grind.{common_steps}
use Rattle.ctd_syntax.proofs.front.after_mark.Goals as goal

pub returns-in_default-first-clause-none : goal.returns-in_default-first-clause-none
returns-in_default-first-clause-none c = grind (arith, common_steps)

pub returns-in_default-clause-none : goal.returns-in_default-clause-none
returns-in_default-clause-none c = grind (arith, common_steps)
