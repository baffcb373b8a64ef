use Rattle.std.proofs.Common.{arith}
use Rattle.std.proofs.lemmas.Grind.{common_steps}
use Rattle.ctd_token.proofs.name.Name.numbered.Goals as goal

pub returns-then-bytes-le-SHORT_NAME : goal.returns-then-bytes-le-SHORT_NAME
returns-then-bytes-le-SHORT_NAME c = grind (arith, common_steps)
