use Rattle.ctd_transfer.proofs.Common.{PartitionIsWithin, subst}
use Rattle.ctd_transfer.proofs.answer.either.Goals as goal

pub returns : goal.returns
returns c = record {
  left = c.in_ok-if_true.ensures.first;
  right = subst (λ l. PartitionIsWithin c.args.context l c.in_ok-if_true.if_true.items) c.as_slice.ensures.value c.in_ok-if_true.ensures.second;
  neither = λ n h one. one;
  by_first = c.union.ensures.first;
  by_second = c.union.ensures.second;
}
