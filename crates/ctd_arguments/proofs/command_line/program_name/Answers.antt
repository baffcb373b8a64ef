use Rattle.std.proofs.Common.{rules}
use Rattle.ctd_arguments.proofs.command_line.program_name.Goals as goal

pub returns-clause-rule : goal.returns-clause-rule
returns-clause-rule c = search rules

pub returns-clause-takes : goal.returns-clause-takes
returns-clause-takes c = search rules
