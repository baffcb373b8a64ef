use Rattle.ctd_traps.proofs.Common.{AbstractState, if_ok_more, subst, var_tree}
use Rattle.ctd_limits.specs.calls.Known.{KnowsName}
use Rattle.ctd_partitions.specs.calls.Tests.{ComparesState}
use Rattle.ctd_program.specs.declared.tree.Compare.TheVariants as comparisons
use Rattle.ctd_traps.proofs.KeptLimits.{stands_beside}
use Rattle.ctd_traps.specs.inner.Turns.{StandsBeside}
use Rattle.ctd_traps.proofs.turn.beside_count.Goals as goal

pub returns-in-Equal : goal.returns-in-Equal
returns-in-Equal c =
    let g = c.args.context in
    let st = c.args.state in
    let target = var_tree c.args.variable.now in
    let counting = c.args.counting.now in
    let knows = subst (λ word. KnowsName c.view_of-view.result word c.in_ok-own.own) c.as_slice.ensures.whole c.in_ok-own.ensures in
    rw c.in-Equal.is
    (if_ok_more (λ (after : AbstractState). ComparesState g st comparisons.Equal c.as_limits.result c.as_limits-count.result after) (λ (after : AbstractState). StandsBeside g st target comparisons.Equal counting after) c.equal.result
    (λ after so. stands_beside g st after c.view_of-view.result target comparisons.Equal counting c.in_ok-own.own c.as_limits.result c.as_limits-count.result c.if-not-counting.false c.view_of-view.ensures knows c.as_limits.ensures c.as_limits-count.ensures so) c.equal.ensures)

pub returns : goal.returns
returns c =
    let g = c.args.context in
    let st = c.args.state in
    let target = var_tree c.args.variable.now in
    let counting = c.args.counting.now in
    let by = c.args.by in
    let knows = subst (λ word. KnowsName c.view_of-view.result word c.in_ok-own.own) c.as_slice.ensures.whole c.in_ok-own.ensures in
    if_ok_more (λ (after : AbstractState). ComparesState g st by c.as_limits-in_default.result c.as_limits-count.result after) (λ (after : AbstractState). StandsBeside g st target by counting after) c.compared.result
    (λ after so. stands_beside g st after c.view_of-view.result target by counting c.in_ok-own.own c.as_limits-in_default.result c.as_limits-count.result c.if-not-counting.false c.view_of-view.ensures knows c.as_limits-in_default.ensures c.as_limits-count.ensures so) c.compared.ensures
