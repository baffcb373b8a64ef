use Rattle.std.proofs.Common.{rules}
use Rattle.ctd_store.proofs.slot.Slot.is_pinned.Goals as goal

pub returns-in-Some : goal.returns-in-Some
returns-in-Some c = search rules
