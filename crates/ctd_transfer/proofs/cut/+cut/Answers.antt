use Rattle.ctd_transfer.proofs.Common.{Cuts, CutsOperand, Ok, expr_tree, if_ok_more, subst, val}
use Rattle.ctd_program.specs.Tree
use Rattle.ctd_store.specs.declared.value.Value.TheVariants as values
use Rattle.ctd_transfer.specs.declared.result.Operator.TheVariants as operators
use Rattle.ctd_transfer.proofs.Comparing.{evaluated_possible, nothing_cuts}
use Rattle.ctd_transfer.proofs.Moving.{difference_cuts, moved_is, sum_cuts}
use Rattle.ctd_transfer.proofs.cut.+cut.Goals as goal

pub cut-returns-in-Name : goal.cut-returns-in-Name
cut-returns-in-Name t c =
    let g = c.args.context in
    let st = c.args.state.now in
    let after = c.narrow.new.state in
    rw c.in-Name.is (if_ok_more (λ _. Cuts g st (Tree.variable c.as_slice.result.now Tree.none) c.args.by c.args.possible after) (λ _. Cuts g st (Tree.variable c.in-Name.name Tree.none) c.args.by c.args.possible after) c.narrow.result
    (λ _ cuts. subst (λ n. Cuts g st (Tree.variable n Tree.none) c.args.by c.args.possible after) c.as_slice.ensures.whole cuts) c.narrow.ensures)

pub cut-returns-in-Add : goal.cut-returns-in-Add
cut-returns-in-Add t c =
    let g = c.args.context in
    let st = c.args.state.now in
    let after = c.cut_operand.new.state in
    let a = expr_tree c.in-Add.a.value in
    let b = expr_tree c.in-Add.b.value in
    let operand = rw (c.deref.ensures, c.deref-in-Add.ensures) at c.cut_operand.ensures in
    rw c.in-Add.is (if_ok_more (λ _. CutsOperand g st a c.args.by operators.Difference c.args.possible b after) (λ _. Cuts g st (Tree.sum a b) c.args.by c.args.possible after) c.cut_operand.result
    (λ _ cuts. sum_cuts g st after a b c.args.by c.args.possible cuts) operand)

pub cut-returns-in-Sub : goal.cut-returns-in-Sub
cut-returns-in-Sub t c =
    let g = c.args.context in
    let st = c.args.state.now in
    let after = c.cut_operand-in-Sub.new.state in
    let a = expr_tree c.in-Sub.a.value in
    let b = expr_tree c.in-Sub.b.value in
    let operand = rw (c.deref-in-Sub.ensures, c.deref-in-Sub-2.ensures) at c.cut_operand-in-Sub.ensures in
    rw c.in-Sub.is (if_ok_more (λ _. CutsOperand g st a c.args.by operators.Sum c.args.possible b after) (λ _. Cuts g st (Tree.difference a b) c.args.by c.args.possible after) c.cut_operand-in-Sub.result
    (λ _ cuts. difference_cuts g st after a b c.args.by c.args.possible cuts) operand)

pub cut-returns-in-Strlen : goal.cut-returns-in-Strlen
cut-returns-in-Strlen t c = rw c.in-Strlen.is (rw c.deref-in-Strlen.ensures at c.cut_length.ensures)

pub cut_operand-returns : goal.cut_operand-returns
cut_operand-returns t c =
    let g = c.args.context in
    let st = c.args.state.now in
    let after = c.cut.new.state in
    let e = expr_tree c.args.e.now in
    let other = expr_tree c.args.other.now in
    if_ok_more (λ _. Cuts g st e c.args.by c.apply-moved.result.values after) (λ _. CutsOperand g st e c.args.by c.args.operator c.args.possible other after) c.cut.result
    (λ _ cuts k h x y w z stands is_x is_y may same so.
    let possible = c.apply-moved.ensures k (Ok (values.Int w)) (val other h) (c.of_values.ensures k (values.Int w) may) (evaluated_possible g c.in_ok-other.other k h (val other h) (c.in_ok-other.ensures k h stands)) in
    cuts k h (values.Int x) (values.Int z) stands is_x (moved_is c.args.operator c.apply-moved.result k (val other h) w y z c.if-moved.false is_y same possible) so) c.cut.ensures

pub cut_operand-returns-then-moved : goal.cut_operand-returns-then-moved
cut_operand-returns-then-moved t c = λ k h x y w z stands is_x is_y may same so. stands

pub cut-returns-in_default : goal.cut-returns-in_default
cut-returns-in_default t c = nothing_cuts c.args.context c.args.state.now (expr_tree c.args.e.now) c.args.by c.args.possible
