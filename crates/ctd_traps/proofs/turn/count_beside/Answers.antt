use Rattle.ctd_traps.proofs.Common.{var_tree}
use Rattle.ctd_traps.proofs.Turning.{counts_beside}
use Rattle.ctd_traps.proofs.turn.count_beside.Goals as goal

pub returns : goal.returns
returns c =
    let own = c.in_ok-after.field-0 in
    counts_beside c.args.context c.args.state.now own.after c.in_ok-after-2.after (var_tree c.args.variable.now) c.args.turn c.args.phase c.args.by c.args.counting.now own.faults c.in_ok-after.ensures c.in_ok-after-2.ensures
