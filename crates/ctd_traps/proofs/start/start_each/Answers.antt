use Rattle.ctd_traps.proofs.Common.{StartsIn, Turns, guard_tree, arith, common_steps, if_ok_more}
use Rattle.ctd_traps.proofs.Turning.{none_starts, starts_in}
use Rattle.ctd_traps.proofs.Unrolling.{nothing_left}
use Rattle.ctd_traps.specs.inner.Turns.{Starts}
use Rattle.ctd_traps.proofs.start.start_each.Goals as goal

pub returns : goal.returns
returns c =
    let g = c.args.context in
    let guard = guard_tree c.args.guard.now in
    let states = c.args.states.now in
    let all = c.in_ok-all.all in
    if_ok_more (λ (t : Turns). Starts g all guard t) (λ (t : Turns). StartsIn g states guard t) c.start.result (λ t so. starts_in g states all guard t c.in_ok-all.ensures so) c.start.ensures

pub returns-then-is_empty : goal.returns-then-is_empty
returns-then-is_empty c = none_starts c.args.context c.args.states.now (guard_tree c.args.guard.now) c.uncounted.result (nothing_left c.args.states.now (grind (arith, common_steps, c.if-is_empty.true, c.is_empty.ensures)))
