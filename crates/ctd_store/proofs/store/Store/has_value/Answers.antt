use Rattle.std.proofs.Common.{arith}
use Rattle.std.proofs.lemmas.Grind.{common_steps}
use Rattle.ctd_store.proofs.store.Store.has_value.Goals as goal

pub returns-else-has_value : goal.returns-else-has_value
returns-else-has_value c = grind (arith, common_steps)
