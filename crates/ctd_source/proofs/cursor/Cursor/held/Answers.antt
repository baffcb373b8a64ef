use Rattle.std.proofs.Common.{rules}
use Rattle.ctd_source.proofs.cursor.Cursor.held.Goals as goal

pub returns-clause-held : goal.returns-clause-held
returns-clause-held g c = search rules

pub returns-clause-counted : goal.returns-clause-counted
returns-clause-counted g c = search rules
