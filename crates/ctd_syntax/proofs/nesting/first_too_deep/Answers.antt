use Rattle.std.proofs.Common.{arith}
use Rattle.std.proofs.lemmas.Grind.{common_steps}
use Rattle.ctd_syntax.proofs.nesting.first_too_deep.Goals as goal

pub returns : goal.returns
returns c = grind (arith, common_steps)
