use Rattle.std.proofs.Common.{◌+◌, arith}
use Rattle.ctd_command.proofs.FewDigits.{read_none, read_more, read_fits, read_to_byte, read_to_end}
use Rattle.ctd_command.proofs.digits.leading_number.Goals as goal

pub loop-count-init : goal.loop-count-init
loop-count-init c = record { read = read_none c.args.few.now }

pub with_digit-requires : goal.with_digit-requires
with_digit-requires c =
    read_fits _ _ _ c.requires (omega (arith, c.loop-count-test.true)) c.loop-count.invariant.read

pub returns-in_default : goal.returns-in_default
returns-in_default c =
    let all = read_to_byte _ _ _ (omega (arith, c.loop-count-test.true)) c.in_default.ensures.none c.loop-count.invariant.read in
    record { number = all.0; count = all.1 }

pub with_digit-requires-in-loop-count : goal.with_digit-requires-in-loop-count
with_digit-requires-in-loop-count c =
    let one = read_more _ _ (c.loop-count.count + 1) _ _ (omega arith) (omega (arith, c.loop-count-test.true)) c.in-Some.ensures.digit c.in-Some.ensures.number c.loop-count.invariant.read in
    read_fits _ _ _ c.requires (omega (arith, c.loop-count-test.true)) one

pub returns-in_default-with_digit : goal.returns-in_default-with_digit
returns-in_default-with_digit c =
    let one = read_more _ _ (c.loop-count.count + 1) _ _ (omega arith) (omega (arith, c.loop-count-test.true)) c.in-Some.ensures.digit c.in-Some.ensures.number c.loop-count.invariant.read in
    let all = read_to_byte _ _ _ (omega (arith, c.loop-count-test.true)) c.in_default-with_digit.ensures.none one in
    record { number = all.0; count = all.1 }

pub with_digit-requires-in-loop-count-2 : goal.with_digit-requires-in-loop-count-2
with_digit-requires-in-loop-count-2 c =
    let one = read_more _ _ (c.loop-count.count + 1) _ _ (omega arith) (omega (arith, c.loop-count-test.true)) c.in-Some.ensures.digit c.in-Some.ensures.number c.loop-count.invariant.read in
    let two = read_more _ _ (c.loop-count.count + 2) _ _ (omega arith) (omega (arith, c.loop-count-test.true)) c.in-Some-with_digit.ensures.digit c.in-Some-with_digit.ensures.number one in
    read_fits _ _ _ c.requires (omega (arith, c.loop-count-test.true)) two

pub returns-in_default-with_digit-2 : goal.returns-in_default-with_digit-2
returns-in_default-with_digit-2 c =
    let one = read_more _ _ (c.loop-count.count + 1) _ _ (omega arith) (omega (arith, c.loop-count-test.true)) c.in-Some.ensures.digit c.in-Some.ensures.number c.loop-count.invariant.read in
    let two = read_more _ _ (c.loop-count.count + 2) _ _ (omega arith) (omega (arith, c.loop-count-test.true)) c.in-Some-with_digit.ensures.digit c.in-Some-with_digit.ensures.number one in
    let all = read_to_byte _ _ _ (omega (arith, c.loop-count-test.true)) c.in_default-with_digit-2.ensures.none two in
    record { number = all.0; count = all.1 }

pub with_digit-requires-in-loop-count-3 : goal.with_digit-requires-in-loop-count-3
with_digit-requires-in-loop-count-3 c =
    let one = read_more _ _ (c.loop-count.count + 1) _ _ (omega arith) (omega (arith, c.loop-count-test.true)) c.in-Some.ensures.digit c.in-Some.ensures.number c.loop-count.invariant.read in
    let two = read_more _ _ (c.loop-count.count + 2) _ _ (omega arith) (omega (arith, c.loop-count-test.true)) c.in-Some-with_digit.ensures.digit c.in-Some-with_digit.ensures.number one in
    let three = read_more _ _ (c.loop-count.count + 3) _ _ (omega arith) (omega (arith, c.loop-count-test.true)) c.in-Some-with_digit-2.ensures.digit c.in-Some-with_digit-2.ensures.number two in
    read_fits _ _ _ c.requires (omega (arith, c.loop-count-test.true)) three

pub returns-in_default-with_digit-3 : goal.returns-in_default-with_digit-3
returns-in_default-with_digit-3 c =
    let one = read_more _ _ (c.loop-count.count + 1) _ _ (omega arith) (omega (arith, c.loop-count-test.true)) c.in-Some.ensures.digit c.in-Some.ensures.number c.loop-count.invariant.read in
    let two = read_more _ _ (c.loop-count.count + 2) _ _ (omega arith) (omega (arith, c.loop-count-test.true)) c.in-Some-with_digit.ensures.digit c.in-Some-with_digit.ensures.number one in
    let three = read_more _ _ (c.loop-count.count + 3) _ _ (omega arith) (omega (arith, c.loop-count-test.true)) c.in-Some-with_digit-2.ensures.digit c.in-Some-with_digit-2.ensures.number two in
    let all = read_to_byte _ _ _ (omega (arith, c.loop-count-test.true)) c.in_default-with_digit-3.ensures.none three in
    record { number = all.0; count = all.1 }

pub loop-count-preserved : goal.loop-count-preserved
loop-count-preserved c =
    let one = read_more _ _ (c.loop-count.count + 1) _ _ (omega arith) (omega (arith, c.loop-count-test.true)) c.in-Some.ensures.digit c.in-Some.ensures.number c.loop-count.invariant.read in
    let two = read_more _ _ (c.loop-count.count + 2) _ _ (omega arith) (omega (arith, c.loop-count-test.true)) c.in-Some-with_digit.ensures.digit c.in-Some-with_digit.ensures.number one in
    let three = read_more _ _ (c.loop-count.count + 3) _ _ (omega arith) (omega (arith, c.loop-count-test.true)) c.in-Some-with_digit-2.ensures.digit c.in-Some-with_digit-2.ensures.number two in
    record { read = read_more _ _ _ _ _ (omega arith) (omega (arith, c.loop-count-test.true)) c.in-Some-with_digit-3.ensures.digit c.in-Some-with_digit-3.ensures.number three }

pub with_digit-requires-in-loop-count-2-2 : goal.with_digit-requires-in-loop-count-2-2
with_digit-requires-in-loop-count-2-2 c = read_fits _ _ _ c.requires c.loop-count-2-test.true c.loop-count-2.invariant.read

pub loop-count-2-preserved : goal.loop-count-2-preserved
loop-count-2-preserved c = record { read = read_more _ _ _ _ _ (omega arith) c.loop-count-2-test.true c.in-Some-with_digit-4.ensures.digit c.in-Some-with_digit-4.ensures.number c.loop-count-2.invariant.read }

pub returns-in_default-with_digit-4 : goal.returns-in_default-with_digit-4
returns-in_default-with_digit-4 c =
    let all = read_to_byte _ _ _ c.loop-count-2-test.true c.in_default-with_digit-4.ensures.none c.loop-count-2.invariant.read in
    record { number = all.0; count = all.1 }

pub returns-after-loop-count-2 : goal.returns-after-loop-count-2
returns-after-loop-count-2 c =
    let all = read_to_end _ _ _ (omega (arith, c.loop-count-2-test.false)) c.loop-count-2.invariant.read in
    record { number = all.0; count = all.1 }
