use Rattle.ctd_elements.proofs.Common.{refl}
use Rattle.ctd_elements.proofs.ElementsRead.{filling_has}
use Rattle.ctd_elements.proofs.read.is_in_filling.Goals as goal

pub returns : goal.returns
returns c = λ yes. filling_has c.args.state c.args.f c.args.array c.args.first c.args.second (c.if-not-is_same_name.ensures.same refl) (c.are_in.ensures yes)
