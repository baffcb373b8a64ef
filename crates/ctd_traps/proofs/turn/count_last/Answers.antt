use Rattle.ctd_program.specs.declared.tree.Compare.TheVariants as comparisons
use Rattle.ctd_traps.proofs.Common.{Some, StatesAfter, boxed_target, if_ok_more}
use Rattle.ctd_traps.proofs.Turning.{counts_last}
use Rattle.ctd_traps.specs.inner.Turns.{CountsEach, CountsLast}
use Rattle.ctd_traps.proofs.turn.count_last.Goals as goal

pub returns : goal.returns
returns c =
    let g = c.args.context in
    let states = c.args.states.now in
    let counter = boxed_target c.args.counter.now in
    let counting = c.args.counting.now in
    let turn = c.last_numbers-turn.result in
    if_ok_more (λ (a : StatesAfter). CountsEach g states counter turn c.args.phase (Some comparisons.Equal) counting a.after.items a.faults) (λ (a : StatesAfter). CountsLast g states counter c.args.phase counting a.after.items a.faults) c.count_each.result
    (λ a so. counts_last g states counter c.args.phase counting c.numbers_of.result turn a.after.items a.faults c.numbers_of.ensures c.last_numbers-turn.ensures so) c.count_each.ensures
