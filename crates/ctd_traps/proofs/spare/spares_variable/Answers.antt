use Rattle.ctd_traps.proofs.Common.{arith, common_steps, expr_list, length, subst, sym, ◌<◌, ◌≡◌}
use Rattle.ctd_program.specs.Tree
use Rattle.ctd_traps.proofs.Trees.{some_indices}
use Rattle.ctd_traps.proofs.spare.spares_variable.Goals as goal

pub returns-then-not-is_empty : goal.returns-then-not-is_empty
returns-then-not-is_empty c = λ _ none same.
    let some : 0 < length c.as_slice.result.now = grind (arith, common_steps, c.if-not-is_empty.true, c.is_empty.ensures) in
    some_indices c.as_slice.result.now some (subst (λ l. expr_list l ≡ Tree.none) (sym c.as_slice.ensures) none)
