use Rattle.std.proofs.Common.{rules}
use Rattle.ctd_states.proofs.faults.has.Goals as goal

pub returns-in-Overflow : goal.returns-in-Overflow
returns-in-Overflow c = record { holds = search rules }
