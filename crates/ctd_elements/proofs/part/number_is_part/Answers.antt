use Rattle.ctd_elements.proofs.Common.{refl}
use Rattle.ctd_elements.proofs.Parts.{number_part}
use Rattle.ctd_elements.proofs.part.number_is_part.Goals as goal

pub returns-in-Some : goal.returns-in-Some
returns-in-Some c = λ yes. number_part c.args.state c.args.a c.in-Some.above c.args.b (c.if-not-is_before.ensures refl) c.in-Some.ensures (c.is_behind.ensures yes)
