use Rattle.std.proofs.Common.{rules}
use Rattle.ctd_source.proofs.cursor.Cursor.seen.Goals as goal

pub returns-clause-seen : goal.returns-clause-seen
returns-clause-seen g c = search rules

pub returns-clause-source : goal.returns-clause-source
returns-clause-source g c = search rules
