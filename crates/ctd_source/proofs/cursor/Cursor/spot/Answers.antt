use Rattle.std.proofs.Common.{rules}
use Rattle.ctd_source.proofs.cursor.Cursor.spot.Goals as goal

pub returns : goal.returns
returns g c = search rules
