use Rattle.ctd_elements.proofs.Following.{from_one}
use Rattle.ctd_elements.proofs.follow.follows_from_two.Goals as goal

pub returns-then-follows_with : goal.returns-then-follows_with
returns-then-follows_with c = λ yes. from_one c.args.state c.args.fact c.loop-other.other-index _ c.loop-other-test.true (c.follows_with.ensures c.if-follows_with.true)
