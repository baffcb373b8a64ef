use Rattle.std.proofs.Common.{rules}
use Rattle.ctd_arguments.proofs.words.mode_of.Goals as goal

pub returns-then-is_set : goal.returns-then-is_set
returns-then-is_set c = search rules

pub returns-else-is_set : goal.returns-else-is_set
returns-else-is_set c = search rules
