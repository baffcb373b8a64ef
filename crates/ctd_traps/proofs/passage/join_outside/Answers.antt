use Rattle.ctd_traps.proofs.Common.{refl}
use Rattle.ctd_traps.proofs.passage.join_outside.Goals as goal

pub returns : goal.returns
returns c = record { first_after = c.in_ok-after.ensures.second; later_after = c.in_ok-after.ensures.first; noted = refl }
