use Rattle.ctd_transfer.proofs.Common.{Acts, KeepsValue, StateAfter, if_ok_more, regex, target}
use Rattle.ctd_transfer.proofs.Acting.{regex_acts}
use Rattle.ctd_transfer.proofs.simple.take_match.Goals as goal

pub returns : goal.returns
returns c =
    let g = c.args.context in
    let st = c.args.state.now in
    let literal = c.args.arguments.now.literal.bytes in
    let kept = target c.args.arguments.now.target in
    let possible = c.in_window.result in
    let limits = c.as_limits.result in
    if_ok_more (λ (a : StateAfter). KeepsValue g st kept possible limits a.after a.faults) (λ (a : StateAfter). Acts g st a.after a.faults (regex literal kept)) c.keep.result
    (λ a so. regex_acts g st a.after literal kept possible c.anything-limits.result limits a.faults c.in_window.ensures c.anything-limits.ensures c.as_limits.ensures so) c.keep.ensures
