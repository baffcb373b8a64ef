use Rattle.std.proofs.Common.{arith}
use Rattle.std.proofs.lemmas.Grind.{common_steps}
use Rattle.ctd_source.proofs.held.second_run_in.Goals as goal

pub slice_bounds-result-start-else-passed-front : goal.slice_bounds-result-start-else-passed-front
slice_bounds-result-start-else-passed-front c = grind (arith, common_steps)

pub returns-then-passed-front-clause-front : goal.returns-then-passed-front-clause-front
returns-then-passed-front-clause-front c = grind (arith, common_steps)

pub returns-else-passed-front-clause-some : goal.returns-else-passed-front-clause-some
returns-else-passed-front-clause-some c = grind (arith, common_steps)
