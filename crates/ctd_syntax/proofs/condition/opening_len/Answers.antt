use Rattle.std.proofs.Common.{arith}
use Rattle.std.proofs.lemmas.Grind.{common_steps}
use Rattle.ctd_syntax.proofs.condition.opening_len.Goals as goal

pub loop-n-preserved : goal.loop-n-preserved
loop-n-preserved c = grind (arith, common_steps)
