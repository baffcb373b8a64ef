use Rattle.ctd_transfer.proofs.Common.{refl}
use Rattle.ctd_transfer.proofs.result.of_length.Goals as goal

pub returns : goal.returns
returns c = λ k n more less. (c.range_of.result, refl, c.range_of.ensures k n more less)
