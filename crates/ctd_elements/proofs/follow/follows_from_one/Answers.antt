use Rattle.ctd_elements.proofs.Following.{from_one}
use Rattle.ctd_elements.proofs.follow.follows_from_one.Goals as goal

pub returns-then-follows_by : goal.returns-then-follows_by
returns-then-follows_by c = λ yes. from_one c.args.state c.args.fact c.loop-other.other-index _ c.loop-other-test.true (c.follows_by.ensures c.if-follows_by.true)
