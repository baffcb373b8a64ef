use Rattle.std.proofs.Common.{rules}
use Rattle.ctd_source.proofs.plain.Plain.skip.Goals as goal

pub returns-clause-moves : goal.returns-clause-moves
returns-clause-moves c = search rules
