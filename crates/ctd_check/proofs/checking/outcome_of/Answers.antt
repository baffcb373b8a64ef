use Rattle.std.proofs.Common.{rules}
use Rattle.ctd_check.proofs.checking.outcome_of.Goals as goal

pub returns-in-Err-Outcome-clause-outcome : goal.returns-in-Err-Outcome-clause-outcome
returns-in-Err-Outcome-clause-outcome c = search rules
