use Rattle.std.proofs.Common.{rules}
use Rattle.ctd_store.proofs.slot.value_under_pins.Goals as goal

pub returns-in-Some : goal.returns-in-Some
returns-in-Some c = search rules
