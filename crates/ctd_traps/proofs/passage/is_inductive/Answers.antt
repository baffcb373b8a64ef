use Rattle.ctd_traps.proofs.Common.{PartitionIsWithin, subst}
use Rattle.ctd_traps.proofs.passage.is_inductive.Goals as goal

pub returns : goal.returns
returns c = λ is. subst (λ k. PartitionIsWithin c.args.context k c.args.candidate.now) c.as_slice.ensures.value (c.are_within.ensures is)
