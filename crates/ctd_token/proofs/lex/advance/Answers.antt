use Rattle.std.proofs.Common.{arith}
use Rattle.std.proofs.lemmas.Grind.{common_steps}
use Rattle.ctd_token.proofs.lex.advance.Goals as goal

pub loop-n-preserved : goal.loop-n-preserved
loop-n-preserved c = grind (arith, common_steps)

pub overflow_add-place : goal.overflow_add-place
overflow_add-place c = grind (arith, common_steps)

pub overflow_add-place-else-text-n-eq10 : goal.overflow_add-place-else-text-n-eq10
overflow_add-place-else-text-n-eq10 c = grind (arith, common_steps)
