use Rattle.ctd_transfer.proofs.Common.{AssignsAt, subst}
use Rattle.ctd_transfer.proofs.Acting.{indexed_assigns}
use Rattle.ctd_transfer.proofs.variable.assign_indexed.Goals as goal

pub returns : goal.returns
returns c =
    let g = c.args.context in
    let st = c.args.state.now in
    let after = c.in_ok-after.after in
    let at = c.position_of.result in
    indexed_assigns g st after c.args.name.now c.args.indices.now c.in_ok-indices.indices at c.args.possible c.args.limits c.faults_of.result c.in_ok-indices.ensures c.faults_of.ensures c.position_of.ensures
    (subst (λ n. AssignsAt g st n at c.args.possible c.args.limits after) c.as_slice.ensures.whole c.in_ok-after.ensures)
