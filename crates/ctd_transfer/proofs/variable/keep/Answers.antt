use Rattle.ctd_transfer.proofs.Common.{Assigns, Expects, KeepsValue, None, Some, StateAfter, if_ok_more, var_tree}
use Rattle.ctd_transfer.proofs.Acting.{keeps_none, keeps_some}
use Rattle.ctd_transfer.proofs.variable.keep.Goals as goal

pub returns-in-Some : goal.returns-in-Some
returns-in-Some c =
    let g = c.args.context in
    let st = c.args.state.now in
    let limits = c.args.limits in
    let variable = var_tree c.in-Some.variable in
    rw c.in-Some.is
    (if_ok_more (λ (a : StateAfter). Assigns g st variable c.args.possible limits a.after a.faults) (λ (a : StateAfter). KeepsValue g st (Some variable) c.args.possible limits a.after a.faults) c.assign.result
    (λ a so. keeps_some g st a.after variable c.args.possible limits a.faults so) c.assign.ensures)

pub returns-in-None : goal.returns-in-None
returns-in-None c =
    let g = c.args.context in
    let st = c.args.state.now in
    let limits = c.args.limits in
    rw c.in-None.is
    (if_ok_more (λ (a : StateAfter). Expects g st c.args.possible a.after) (λ (a : StateAfter). KeepsValue g st None c.args.possible limits a.after a.faults) c.keep_nothing.result
    (λ a so. keeps_none g st a.after c.args.possible limits a.faults so) c.keep_nothing.ensures)
