use Rattle.ctd_traps.proofs.Common.{Divides, ap, expr_tree, guard_tree, subst, test_tree}
use Rattle.ctd_traps.proofs.Turning.{enters_times, enters_while}
use Rattle.ctd_traps.proofs.turn.enter.Goals as goal

pub returns-in_ok-outside-in-Times : goal.returns-in_ok-outside-in-Times
returns-in_ok-outside-in-Times c =
    let inside = c.in_ok-inside-in-Times.inside in
    let outside = c.in_ok-outside-in-Times.outside in
    enters_times c.args.context c.args.repeated.now (expr_tree c.in-Times.field-0.value) c.args.states.now inside.after.items outside.after.items c.args.phase c.args.counting.now c.numbers_of-turn.result c.below.result inside.faults outside.faults c.union.result (ap guard_tree c.in-Times.is)
    (record { in_numbers = c.numbers_of-turn.ensures; narrower = c.below.ensures; goes_on = c.in_ok-inside-in-Times.ensures; is_over = c.in_ok-outside-in-Times.ensures; by_f = c.union.ensures.first; by_q = c.union.ensures.second })

pub returns-in_ok-divided-in-While : goal.returns-in_ok-divided-in-While
returns-in_ok-divided-in-While c =
    let g = c.args.context in
    let counted = c.in_ok-counted-in-While.counted in
    let divided = c.in_ok-divided-in-While.divided in
    enters_while g c.args.repeated.now (test_tree c.in-While.t.value) c.args.states.now counted.after.items divided.if_true.items divided.if_false.items c.args.phase c.args.counting.now c.numbers_of-turn.result counted.faults divided.faults c.union-in-While.result (ap guard_tree c.in-While.is)
    c.numbers_of-turn.ensures c.in_ok-counted-in-While.ensures
    (subst (λ u. Divides g counted.after.items (test_tree u) divided.if_true.items divided.if_false.items divided.faults) c.deref.ensures
    (subst (λ k. Divides g k (test_tree c.deref.result.now) divided.if_true.items divided.if_false.items divided.faults) c.as_slice.ensures.value c.in_ok-divided-in-While.ensures))
    c.union-in-While.ensures.first c.union-in-While.ensures.second
