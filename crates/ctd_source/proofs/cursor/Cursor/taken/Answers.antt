use Rattle.std.proofs.Common.{rules}
use Rattle.ctd_source.proofs.cursor.Cursor.taken.Goals as goal

pub returns-clause-taken : goal.returns-clause-taken
returns-clause-taken g c = search rules
