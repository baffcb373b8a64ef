use Rattle.std.proofs.Common.{arith}
use Rattle.std.proofs.lemmas.Grind.{common_steps}
use Rattle.ctd_syntax.proofs.condition.compare_at.Goals as goal

pub returns-in-Mark-Less-clause-operator : goal.returns-in-Mark-Less-clause-operator
returns-in-Mark-Less-clause-operator c = grind (arith, common_steps)

pub returns-in-Mark-Greater-clause-operator : goal.returns-in-Mark-Greater-clause-operator
returns-in-Mark-Greater-clause-operator c = grind (arith, common_steps)

pub returns-in-Mark-AtMost-clause-operator : goal.returns-in-Mark-AtMost-clause-operator
returns-in-Mark-AtMost-clause-operator c = grind (arith, common_steps)

pub returns-in-Mark-AtLeast-clause-operator : goal.returns-in-Mark-AtLeast-clause-operator
returns-in-Mark-AtLeast-clause-operator c = grind (arith, common_steps)

pub returns-in-Mark-Equal-clause-operator : goal.returns-in-Mark-Equal-clause-operator
returns-in-Mark-Equal-clause-operator c = grind (arith, common_steps)

pub returns-in-Mark-Unequal-clause-operator : goal.returns-in-Mark-Unequal-clause-operator
returns-in-Mark-Unequal-clause-operator c = grind (arith, common_steps)
