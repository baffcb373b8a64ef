use Rattle.std.proofs.Common.{rules}
use Rattle.ctd_check.proofs.loops.goes_on.Goals as goal

pub returns-in-Times : goal.returns-in-Times
returns-in-Times g c = search rules
