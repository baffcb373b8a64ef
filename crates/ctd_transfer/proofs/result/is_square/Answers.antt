use Rattle.ctd_program.specs.Tree
use Rattle.ctd_transfer.proofs.Common.{ap, expr_tree, sym}
use Rattle.ctd_transfer.proofs.result.is_square.Goals as goal

pub returns-in-Mul : goal.returns-in-Mul
returns-in-Mul c =
    let same = rw (c.deref.ensures, c.deref-in-Mul.ensures) at c.are_one_name.ensures in
    let factor = expr_tree c.in-Mul.a.value in
    λ is. (factor, rw c.in-Mul.is (ap (Tree.times factor) (sym (same is))))
