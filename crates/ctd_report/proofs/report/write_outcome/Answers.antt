use Rattle.std.proofs.Common.{rules}
use Rattle.ctd_report.proofs.report.write_outcome.Goals as goal

pub returns-in-Rejected : goal.returns-in-Rejected
returns-in-Rejected g c = search rules
