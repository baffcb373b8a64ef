use Rattle.ctd_range.proofs.Ends.{every_value_is_in}
use Rattle.ctd_range.proofs.range.every_value.Goals as goal

pub returns : goal.returns
returns c = record { every = λ n x value. every_value_is_in n x value }
