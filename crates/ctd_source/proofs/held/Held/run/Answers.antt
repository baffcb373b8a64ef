use Rattle.std.proofs.Common.{arith}
use Rattle.std.proofs.lemmas.Grind.{common_steps}
use Rattle.ctd_source.proofs.held.Held.run.Goals as goal

pub returns-then-self-piece-clause-within : goal.returns-then-self-piece-clause-within
returns-then-self-piece-clause-within c = grind (arith, common_steps)

pub returns-else-self-piece-clause-some : goal.returns-else-self-piece-clause-some
returns-else-self-piece-clause-some c = grind (arith, common_steps)
