use Rattle.std.proofs.Common.{rules}
use Rattle.ctd_store.proofs.array.Array.clear.Goals as goal

pub returns : goal.returns
returns c = search rules
