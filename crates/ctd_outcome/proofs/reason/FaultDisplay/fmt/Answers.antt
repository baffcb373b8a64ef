use Rattle.std.proofs.Common.{rules}
use Rattle.ctd_outcome.proofs.reason.FaultDisplay.fmt.Goals as goal

pub returns-clause-writes : goal.returns-clause-writes
returns-clause-writes g c = search rules
