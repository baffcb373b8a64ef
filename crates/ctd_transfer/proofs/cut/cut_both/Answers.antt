use Rattle.ctd_transfer.proofs.Common.{expr_tree}
use Rattle.ctd_transfer.proofs.Comparing.{both_cut, possible_cut}
use Rattle.ctd_transfer.proofs.cut.cut_both.Goals as goal

pub returns : goal.returns
returns c =
    let g = c.args.context in
    let st = c.args.state.now in
    let copy = c.in_ok-after.after in
    let left = c.expect_value.new.state in
    let once = c.cut.new.state in
    let twice = c.cut-2.new.state in
    let a = expr_tree c.args.a.now in
    let b = expr_tree c.args.b.now in
    possible_cut g st copy left twice c.args.by a b c.args.one c.args.other c.cut_values.result c.in_ok-after.ensures c.cut_values.ensures c.expect_value.ensures
    (both_cut g left once twice c.args.by c.swapped.result a b c.args.one c.args.other c.in_ok-cut.ensures c.in_ok-cut-2.ensures c.swapped.ensures)
