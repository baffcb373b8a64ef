use Rattle.std.proofs.Common.{rules}
use Rattle.ctd_value.proofs.assign.set_to_any_expression.Goals as goal

pub returns-in_err-value-clause-value : goal.returns-in_err-value-clause-value
returns-in_err-value-clause-value c = search rules
