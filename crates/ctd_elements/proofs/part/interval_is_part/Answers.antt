use Rattle.ctd_elements.proofs.Common.{refl}
use Rattle.ctd_elements.proofs.Parts.{interval_part}
use Rattle.ctd_elements.proofs.part.interval_is_part.Goals as goal

pub returns : goal.returns
returns c = λ yes. interval_part c.args.state c.args.a c.args.b (c.if-not-is_before.ensures refl) (c.is_behind.ensures yes)
