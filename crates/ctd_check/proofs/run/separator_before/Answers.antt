use Rattle.std.proofs.Common.{rules}
use Rattle.ctd_check.proofs.run.separator_before.Goals as goal

pub returns-clause-tasks : goal.returns-clause-tasks
returns-clause-tasks c = search rules
