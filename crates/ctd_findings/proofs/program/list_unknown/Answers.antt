use Rattle.std.proofs.Common.{inr, refl}
use Rattle.ctd_findings.proofs.Sound.{one_more}
use Rattle.ctd_findings.proofs.program.list_unknown.Goals as goal

pub returns-in-Ok : goal.returns-in-Ok
returns-in-Ok c = record { sound = λ places never before. one_more places never _ _ _ (inr (refl, refl), tt) c.add.ensures.adds before }
