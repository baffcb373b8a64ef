use Rattle.ctd_traps.proofs.Common.{Spares, SparesEach, choice_tree, out-Choice, out-Loop, subst, sym}
use Rattle.ctd_traps.proofs.Trees.{block_trees}
use Rattle.ctd_traps.proofs.spare.+spares.Goals as goal

pub spares-returns-then-spares_each : goal.spares-returns-then-spares_each
spares-returns-then-spares_each t c = λ is.
    let name = c.args.name.now in
    let choice = c.deref-in-If.result.now in
    let then_do = subst (SparesEach name) (block_trees (out-Choice choice).then_do c.as_slice-in-If.result.now c.as_slice-in-If.ensures) (c.spares_each.ensures c.if-spares_each.true) in
    let else_do = subst (SparesEach name) (block_trees (out-Choice choice).else_do c.as_slice-then-spares_each.result.now c.as_slice-then-spares_each.ensures) (c.spares_each-then-spares_each.ensures is) in
    subst (Spares name) (sym (choice_tree _ c.in-If.choice choice c.args.command.now.place c.in-If.is c.deref-in-If.ensures)) (then_do, else_do)

pub turns_spare-returns-then-spares_between : goal.turns_spare-returns-then-spares_between
turns_spare-returns-then-spares_between t c = λ is. (
  c.spares_between.ensures c.if-spares_between.true,
  subst (SparesEach c.args.name.now) (block_trees (out-Loop c.args.repeated.now).body c.as_slice.result.now c.as_slice.ensures) (c.spares_each.ensures is),
)
