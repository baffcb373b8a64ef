use Rattle.ctd_transfer.proofs.Common.{Cuts, expr_tree, if_ok_more, subst}
use Rattle.ctd_program.specs.Tree
use Rattle.ctd_transfer.proofs.Comparing.{nothing_cuts}
use Rattle.ctd_transfer.proofs.cut.cut_length.Goals as goal

pub returns-in-Name : goal.returns-in-Name
returns-in-Name c =
    let g = c.args.context in
    let st = c.args.state.now in
    let after = c.narrow_length.new.state in
    rw c.in-Name.is (if_ok_more (λ _. Cuts g st (Tree.strlen (Tree.variable c.as_slice.result.now Tree.none)) c.args.by c.args.possible after) (λ _. Cuts g st (Tree.strlen (Tree.variable c.in-Name.name Tree.none)) c.args.by c.args.possible after) c.narrow_length.result
    (λ _ cuts. subst (λ n. Cuts g st (Tree.strlen (Tree.variable n Tree.none)) c.args.by c.args.possible after) c.as_slice.ensures.whole cuts) c.narrow_length.ensures)

pub returns-in_default : goal.returns-in_default
returns-in_default c = nothing_cuts c.args.context c.args.state.now (Tree.strlen (expr_tree c.args.text.now)) c.args.by c.args.possible
