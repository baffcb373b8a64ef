use Rattle.std.proofs.Common.{rules}
use Rattle.ctd_source.proofs.plain.Plain.look.Goals as goal

pub returns-in-None : goal.returns-in-None
returns-in-None c = search rules
