use Rattle.ctd_traps.proofs.Common.{Assigns, None, Some, StateAfter, if_ok_more, var_tree}
use Rattle.ctd_traps.proofs.Turning.{counts_some}
use Rattle.ctd_traps.specs.inner.Turns.{CountsTurn}
use Rattle.ctd_traps.proofs.turn.give_number.Goals as goal

pub returns : goal.returns
returns c =
    let g = c.args.context in
    let st = c.args.state.now in
    let target = var_tree c.args.variable.now in
    let counting = c.args.counting.now in
    let limits = c.in_ok-limits.limits in
    let possible = c.numbers_alone-possible.result in
    let view = c.as_limits.result in
    if_ok_more (λ (a : StateAfter). Assigns g st target possible view a.after a.faults) (λ (a : StateAfter). CountsTurn g st (Some target) c.args.turn c.args.phase None counting a.after a.faults) c.assign.result
    (λ a so. counts_some g st a.after target c.args.turn c.args.phase counting limits view possible a.faults c.numbers_alone-possible.ensures c.in_ok-limits.ensures c.as_limits.ensures so) c.assign.ensures
