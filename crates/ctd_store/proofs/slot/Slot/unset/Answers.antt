use Rattle.std.proofs.Common.{rules}
use Rattle.ctd_store.proofs.slot.Slot.unset.Goals as goal

pub returns-clause-pins : goal.returns-clause-pins
returns-clause-pins c = search rules
