use Rattle.ctd_traps.proofs.Common.{AbstractState, AreBranches, PartitionIsWithin, Vec, if_ok_both, subst}
use Rattle.ctd_traps.proofs.simple.join_branches.Goals as goal

pub returns : goal.returns
returns c =
    let g = c.args.context in
    if_ok_both (λ (v : Vec AbstractState). PartitionIsWithin g c.args.yes.items v.items) (λ (v : Vec AbstractState). PartitionIsWithin g c.as_slice.result.now v.items) (λ (v : Vec AbstractState). AreBranches g c.args.yes.items c.args.no.items v.items) c.join_partitions.result
    (λ v first second. record { yes_after = first; no_after = subst (λ k. PartitionIsWithin g k v.items) c.as_slice.ensures.value second }) c.join_partitions.ensures.first c.join_partitions.ensures.second
