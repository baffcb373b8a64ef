use Rattle.ctd_traps.proofs.Common.{var_tree, ◌∙◌}
use Rattle.ctd_traps.proofs.KeptLimits.{knows_later}
use Rattle.ctd_traps.proofs.turn.turn_limits.Goals as goal

pub returns-in_ok-next-in-Some : goal.returns-in_ok-next-in-Some
returns-in_ok-next-in-Some c =
    knows_later c.args.context c.args.state.now c.view_of-view.result (var_tree c.args.variable.now) c.args.phase c.args.counting.now c.in_ok-next-in-Some.next c.in-Some.i c.view_of-view.ensures (c.in-Some.ensures.named ∙ c.as_slice.ensures.whole)
    c.if-not-counting.false c.if-not-counting-2.false (c.is_first.ensures.later c.if-is_first.false) c.in_ok-next-in-Some.ensures
