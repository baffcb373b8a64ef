use Rattle.std.proofs.Common.{rules}
use Rattle.ctd_token.proofs.literal.escape.Goals as goal

pub returns-in-10-clause-value : goal.returns-in-10-clause-value
returns-in-10-clause-value c = search rules

pub returns-in-10-clause-length : goal.returns-in-10-clause-length
returns-in-10-clause-length c = search rules
