use Rattle.std.proofs.Common.{rules}
use Rattle.ctd_pattern.proofs.matcher.length_of_first.Goals as goal

pub returns-in-Some-clause-length : goal.returns-in-Some-clause-length
returns-in-Some-clause-length c = search rules
