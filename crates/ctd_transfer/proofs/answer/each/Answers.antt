use Rattle.ctd_transfer.proofs.Common.{PartitionIsWithin, subst}
use Rattle.ctd_transfer.proofs.answer.each.Goals as goal

pub returns : goal.returns
returns c = record {
  left = c.in_ok-if_false.ensures.first;
  right = subst (λ l. PartitionIsWithin c.args.context l c.in_ok-if_false.if_false.items) c.as_slice.ensures.value c.in_ok-if_false.ensures.second;
  neither = λ n h one. one;
  by_first = c.union.ensures.first;
  by_second = c.union.ensures.second;
}
