use Rattle.ctd_program.specs.Tree
use Rattle.ctd_transfer.proofs.Common.{AreSameWith, SplitState, SplitsBy, expr_tree, if_ok_more}
use Rattle.ctd_transfer.proofs.Deciding.{match_splits}
use Rattle.ctd_transfer.proofs.condition.split_match.Goals as goal

pub returns : goal.returns
returns c =
    let g = c.args.context in
    let st = c.args.state.now in
    let e = expr_tree c.args.e.now in
    let texts = c.text_alone.result in
    let f = c.text_faults.result in
    if_ok_more (λ (s : SplitState). AreSameWith texts st f s) (λ (s : SplitState). SplitsBy g st (Tree.matches e) s.if_true s.if_false s.faults) c.same_with.result
    (λ s so. match_splits g st e c.in_ok-wanted.wanted texts f s c.in_ok-wanted.ensures c.text_alone.ensures c.text_faults.ensures so) c.same_with.ensures
