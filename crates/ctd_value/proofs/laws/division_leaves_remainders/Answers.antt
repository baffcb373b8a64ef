use Rattle.ctd_value.proofs.Remainders.{remainder_is}
use Rattle.ctd_value.proofs.laws.division_leaves_remainders.Goals as goal

pub returns : goal.returns
returns c = record { remainder = remainder_is }
