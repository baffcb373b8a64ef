use Rattle.std.proofs.Common.{rules}
use Rattle.ctd_syntax.proofs.expression.join.Goals as goal

pub returns : goal.returns
returns c = search rules
