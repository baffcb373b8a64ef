use Rattle.std.proofs.Common.{arith}
use Rattle.ctd_token.proofs.Numerals.{decimal_more, decimal_more_le}
use Rattle.ctd_token.proofs.scan.digits_value.Goals as goal

pub returns-then-value : goal.returns-then-value
returns-then-value c = omega (arith, c.if-value.true, c.loop-b.invariant.read, decimal_more_le c.args.digits.now c.loop-b.b-index c.loop-b-test.true)

pub returns-then-value-2 : goal.returns-then-value-2
returns-then-value-2 c = omega (arith, c.if-value-2.true, c.loop-b.invariant.read, decimal_more_le c.args.digits.now c.loop-b.b-index c.loop-b-test.true)

pub loop-b-preserved : goal.loop-b-preserved
loop-b-preserved c =
    let more = decimal_more c.args.digits.now c.loop-b.b-index c.loop-b-test.true in
    record { small = omega (arith, c.loop-b.invariant.read, c.if-value-2.false); read = omega (arith, c.loop-b.invariant.read, more) }
