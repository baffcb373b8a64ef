use Rattle.std.proofs.Common.{drop, nat_eq, arith, length-drop}
use Rattle.std.proofs.lemmas.Grind.{common_steps}
use Rattle.std.proofs.lemmas.List.Sums.{common_prefix_len-le}
use Rattle.ctd_command.proofs.string.first_difference.Goals as goal

pub returns : goal.returns
returns c =
    let n = c.loop-count.count in
    let wanted = c.args.wanted.now in
    let bytes = c.args.bytes.now in
    let le = common_prefix_len-le nat_eq (drop n wanted) (drop n bytes) in
    omega (arith, c.loop-count.invariant.agree, c.loop-count.invariant.within, c.loop-count-test.false, c.min-most.ensures, le.0, le.1, length-drop n wanted, length-drop n bytes)

pub loop-count-preserved : goal.loop-count-preserved
loop-count-preserved c = grind (arith, common_steps)
