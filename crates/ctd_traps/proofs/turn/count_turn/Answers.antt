use Rattle.ctd_traps.proofs.Common.{Expects, None, StateAfter, if_ok_more}
use Rattle.ctd_traps.proofs.Turning.{counts_nothing}
use Rattle.ctd_traps.specs.inner.Turns.{CountsTurn}
use Rattle.ctd_traps.proofs.turn.count_turn.Goals as goal

pub returns-in-None : goal.returns-in-None
returns-in-None c =
    let g = c.args.context in
    let st = c.args.state.now in
    let counting = c.args.counting.now in
    let possible = c.numbers_alone.result in
    rw c.in-None.is
    (if_ok_more (λ (a : StateAfter). Expects g st possible a.after) (λ (a : StateAfter). CountsTurn g st None c.args.turn c.args.phase c.args.by counting a.after a.faults) c.keep_nothing.result
    (λ a so. counts_nothing g st a.after c.args.turn c.args.phase c.args.by counting possible a.faults c.numbers_alone.ensures so) c.keep_nothing.ensures)

pub returns-in-Some-by : goal.returns-in-Some-by
returns-in-Some-by c = rw (c.in-Some.is, c.in-Some-by.is) (rw c.deref.ensures at c.count_beside.ensures)

pub returns-in-None-by : goal.returns-in-None-by
returns-in-None-by c = rw (c.in-Some.is, c.in-None-by.is) (rw c.deref-in-None-by.ensures at c.give_number.ensures)
