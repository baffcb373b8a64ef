use Rattle.std.proofs.Common.{arith}
use Rattle.std.proofs.lemmas.Grind.{common_steps}
use Rattle.ctd_source.proofs.held.run_in.Goals as goal

pub returns-then-passed-front-clause-front : goal.returns-then-passed-front-clause-front
returns-then-passed-front-clause-front c = grind (arith, common_steps)
