use Rattle.std.proofs.Common.{rules}
use Rattle.ctd_store.proofs.value.as_i64.Goals as goal

pub returns-then-from-n-clause-value : goal.returns-then-from-n-clause-value
returns-then-from-n-clause-value c = search rules
