use Rattle.std.proofs.Common.{rules}
use Rattle.ctd_command.proofs.regex.shorter_match.Goals as goal

pub returns-in-Some-clause-does : goal.returns-in-Some-clause-does
returns-in-Some-clause-does g c = search rules

pub returns-in-Some-2-clause-does : goal.returns-in-Some-2-clause-does
returns-in-Some-2-clause-does g c = search rules
