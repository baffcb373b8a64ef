use Rattle.std.proofs.Common.{length, subst, ◌<◌}
use Rattle.std.specs.Global.{Vec}
use Rattle.ctd_states.specs.declared.assign.Context.{Context}
use Rattle.ctd_partitions.specs.declared.state.State.{State}
use Rattle.ctd_partitions.specs.calls.Partitions.{IsInPartition, PartitionIsWithin}
use Rattle.ctd_partitions.proofs.Joining.{if_ok_both, if_ok_more, rejoined}
use Rattle.ctd_partitions.proofs.partition.join_state.Goals as goal

pub returns-then-is_dropped : goal.returns-then-is_dropped
returns-then-is_dropped c = record {
  others = λ n h one. one;
  added = λ n h stands. absurd (c.is_never-is_dropped.ensures c.if-is_dropped.true c.args.context n h stands);
}

pub returns-in-None : goal.returns-in-None
returns-in-None c =
    let g = c.args.context in
    record {
      others = if_ok_more (λ (v : Vec State). (g : Context) → PartitionIsWithin g c.args.states.items v.items) (λ (v : Vec State). PartitionIsWithin g c.args.states.items v.items) c.with_pushed-in-None.result (λ v so. so g) c.with_pushed-in-None.ensures.others;
      added = if_ok_more (λ (v : Vec State). (g : Context) → IsInPartition g c.args.state v.items) (λ (v : Vec State). IsInPartition g c.args.state v.items) c.with_pushed-in-None.result (λ v so. so g) c.with_pushed-in-None.ensures.added;
    }

pub returns-in_ok-joined-in-Some : goal.returns-in_ok-joined-in-Some
returns-in_ok-joined-in-Some c =
    let g = c.args.context in
    let states = c.args.states.items in
    let i = c.in-Some.i in
    let same = c.remove-same.result in
    let rest = c.remove-same.new.self.items in
    let joined = c.in_ok-joined-in-Some.joined in
    let joins = c.in_ok-joined-in-Some.ensures in
    let inside : i < length states = subst (λ l. i < length l) c.as_slice.ensures.value c.in-Some.ensures.inside in
    record {
      others = if_ok_both (λ (v : Vec State). (g : Context) → PartitionIsWithin g rest v.items) (λ (v : Vec State). (g : Context) → IsInPartition g joined v.items) (λ (v : Vec State). PartitionIsWithin g states v.items) c.with_pushed.result
          (λ v left one. rejoined g states rest v.items i same joined inside c.remove-same.ensures.value c.remove-same.ensures.items joins.left (left g) (one g)) c.with_pushed.ensures.others c.with_pushed.ensures.added;
      added = if_ok_more (λ (v : Vec State). (g : Context) → IsInPartition g joined v.items) (λ (v : Vec State). IsInPartition g c.args.state v.items) c.with_pushed.result (λ v so n h stands. so g n h (joins.right n h stands)) c.with_pushed.ensures.added;
    }
