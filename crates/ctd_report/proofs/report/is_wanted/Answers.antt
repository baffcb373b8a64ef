use Rattle.std.proofs.Common.{rules}
use Rattle.ctd_report.proofs.report.is_wanted.Goals as goal

pub returns-in-Help-clause-fault : goal.returns-in-Help-clause-fault
returns-in-Help-clause-fault g c = search rules
