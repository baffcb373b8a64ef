use Rattle.std.proofs.Common.{rules, ◌+◌, ◌≡◌}
use Rattle.ctd_limits.proofs.Adding.{more_terms}
use Rattle.ctd_limits.proofs.add.more_often.Goals as goal

pub returns : goal.returns
returns c =
    let sum : c.in_ok-times.times ≡ c.args.s.times + c.args.t.times = search rules in
    more_terms c.args.s c.args.t c.in_ok-times.times c.if-s-t.false sum
