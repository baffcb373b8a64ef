use Rattle.std.proofs.Common.{rules}
use Rattle.ctd_syntax.proofs.nesting.change_of.Goals as goal

pub returns-in-Else : goal.returns-in-Else
returns-in-Else c = search rules
