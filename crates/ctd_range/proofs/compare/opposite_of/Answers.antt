use Rattle.std.proofs.Common.{rules}
use Rattle.ctd_range.proofs.compare.opposite_of.Goals as goal

pub returns-in-Less : goal.returns-in-Less
returns-in-Less c = record { opposite = search rules }
