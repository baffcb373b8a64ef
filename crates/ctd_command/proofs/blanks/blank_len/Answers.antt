use Rattle.std.proofs.Common.{arith}
use Rattle.std.proofs.lemmas.Grind.{common_steps}
use Rattle.ctd_command.proofs.blanks.blank_len.Goals as goal

pub loop-count-preserved : goal.loop-count-preserved
loop-count-preserved c = grind (arith, common_steps)

pub returns-else-is_blank : goal.returns-else-is_blank
returns-else-is_blank c = grind (arith, common_steps)
