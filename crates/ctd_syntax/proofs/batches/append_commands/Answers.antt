use Rattle.std.proofs.Common.{rules}
use Rattle.ctd_syntax.proofs.batches.append_commands.Goals as goal

pub returns-in-Err-Syntax : goal.returns-in-Err-Syntax
returns-in-Err-Syntax c = search rules
