use Rattle.std.proofs.Common.{rules}
use Rattle.ctd_syntax.proofs.grammar.parse.Goals as goal

pub returns-in-Some-clause-refused : goal.returns-in-Some-clause-refused
returns-in-Some-clause-refused c = search rules
