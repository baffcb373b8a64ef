use Rattle.std.proofs.Common.{subst, sym}
use Rattle.ctd_partitions.specs.calls.Partitions.{IsInPartition, PartitionIsWithin}
use Rattle.ctd_partitions.proofs.Joining.{pushed_last, pushed_others}
use Rattle.ctd_partitions.proofs.partition.with_pushed.Goals as goal

pub returns : goal.returns
returns c =
    let states = c.args.states.items in
    let all = c.in_ok-push.ensures.items in
    record {
      others = λ g. subst (λ l. PartitionIsWithin g states l) (sym all) (pushed_others g states c.args.state);
      added = λ g. subst (λ l. IsInPartition g c.args.state l) (sym all) (pushed_last g states c.args.state);
    }
