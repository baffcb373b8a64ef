use Rattle.std.proofs.Common.{drop}
use Rattle.ctd_partitions.specs.calls.Partitions.{OneStands, PartitionIsWithin}
use Rattle.ctd_partitions.proofs.Joining.{RestOr}
use Rattle.ctd_partitions.proofs.partition.join_partitions.Given as goal

abbrev pub invariant-loop-other : goal.invariant-loop-other
invariant-loop-other l = record {
  first : PartitionIsWithin l.context l.initial.all.items l.all.items;
  rest : RestOr l.context (drop l.other-index l.others) l.others (λ n h. OneStands l.context l.all.items n h);
}
