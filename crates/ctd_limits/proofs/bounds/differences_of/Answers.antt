use Rattle.ctd_limits.proofs.Listing.{all_subtracted}
use Rattle.ctd_limits.proofs.bounds.differences_of.Goals as goal

pub loop-a-preserved : goal.loop-a-preserved
loop-a-preserved c = all_subtracted c.args.bounds.now c.args.others.now c.loop-a.all.items c.in_ok-all.all.items c.loop-a.a-index _ c.loop-a-test.true c.in_ok-all.ensures c.loop-a.invariant
