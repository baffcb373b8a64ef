use Rattle.std.proofs.Common.{arith, ◌+◌, ◌≡◌}
use Rattle.ctd_limits.proofs.Adding.{equal_terms, less_terms}
use Rattle.ctd_limits.proofs.add.less_often.Goals as goal

pub returns-then-times-eq0 : goal.returns-then-times-eq0
returns-then-times-eq0 c =
    let sum : c.in_ok-times.times + c.args.t.times ≡ c.args.s.times = grind arith in
    let same : c.args.t.times ≡ c.args.s.times = omega (arith, sum, c.if-times-eq0.true) in
    equal_terms c.args.s c.args.t c.if-s-t.false same

pub returns : goal.returns
returns c =
    let sum : c.in_ok-times.times + c.args.t.times ≡ c.args.s.times = grind arith in
    less_terms c.args.s c.args.t c.in_ok-times.times c.if-s-t.false sum
