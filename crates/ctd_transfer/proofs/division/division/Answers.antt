use Rattle.ctd_transfer.proofs.Divisors.{plain_division, spared_division}
use Rattle.ctd_transfer.proofs.division.division.Goals as goal

pub returns-then-not-divisor : goal.returns-then-not-divisor
returns-then-not-divisor c = plain_division c.args.e.now c.args.left.now c.args.divisor.now c.in_ok-all.all c.in_ok-all.ensures

pub returns : goal.returns
returns c =
    spared_division c.args.e.now c.args.left.now c.args.divisor.now c.in_ok-all.all c.spared.result c.in_ok-all.ensures c.if-not-divisor.false c.spared.ensures.values c.spared.ensures.own c.spared.ensures.first c.spared.ensures.second
