use Rattle.ctd_partitions.specs.calls.Partitions.{OneStands}
use Rattle.ctd_partitions.proofs.Joining.{copy_stands, state_done, states_done}
use Rattle.ctd_partitions.proofs.partition.join_partitions.Goals as goal

pub loop-other-preserved : goal.loop-other-preserved
loop-other-preserved c =
    let g = c.args.context in
    let other = c.other-item.result in
    let copy = c.in_ok-copy.copy in
    let added = c.in_ok-all.ensures in
    record {
      first = λ n h one. added.others n h (c.loop-other.invariant.first n h one);
      rest = state_done g c.args.others.now c.loop-other.other-index other (λ n h. OneStands g c.loop-other.all.items n h) (λ n h. OneStands g c.in_ok-all.all.items n h) c.loop-other-test.true c.other-item.is
          added.others (λ n h stands. added.added n h (copy_stands g other copy c.in_ok-copy.ensures n h stands)) c.loop-other.invariant.rest;
    }

pub returns : goal.returns
returns c =
    let g = c.args.context in
    record {
      first = c.loop-other.invariant.first;
      second = states_done g c.args.others.now c.loop-other.other-index (λ n h. OneStands g c.loop-other.all.items n h) c.loop-other-test.false c.loop-other.invariant.rest;
    }
