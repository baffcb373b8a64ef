use Rattle.std.proofs.Common.{rules}
use Rattle.ctd_value.proofs.expression.any_text.Goals as goal

pub returns : goal.returns
returns c = search rules
