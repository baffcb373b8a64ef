use Rattle.std.proofs.Common.{◌≤◌, length, ◌+◌, ◌*◌}
use Rattle.std.specs.Prelude.{map}
use Rattle.ctd_program.specs.calls.View.{expr_tree}
use Rattle.ctd_syntax.specs.Grammar.{IsExpr, IsProduct, IsSigned}
use Rattle.ctd_syntax.specs.inner.Front.{lexeme}
use Rattle.ctd_syntax.specs.inner.Levels.{ends, sum_operator, product_operator, join}
use Rattle.ctd_syntax.proofs.StayRows.{BeforeItem}
use Rattle.ctd_token.specs.declared.token.Mark.TheVariants.{CloseIndex}
use Rattle.ctd_syntax.proofs.StayChains.{Partly}
use Rattle.ctd_syntax.proofs.expression.+expression.Given as goal

abbrev pub decreases-indices : goal.decreases-indices
decreases-indices l = 10 * length l.tokens.now + 8

abbrev pub decreases-variable : goal.decreases-variable
decreases-variable l = 10 * length l.tokens.now + 1

abbrev pub decreases-parenthesized : goal.decreases-parenthesized
decreases-parenthesized l = 10 * length l.tokens.now + 7

abbrev pub decreases-expr : goal.decreases-expr
decreases-expr l = 10 * length l.tokens.now + 6

abbrev pub decreases-product : goal.decreases-product
decreases-product l = 10 * length l.tokens.now + 5

abbrev pub decreases-signed : goal.decreases-signed
decreases-signed l = 10 * length l.tokens.now + 4

abbrev pub decreases-power : goal.decreases-power
decreases-power l = 10 * length l.tokens.now + 3

abbrev pub decreases-atom : goal.decreases-atom
decreases-atom l = 10 * length l.tokens.now + 2

abbrev pub invariant-expr-loop-operator : goal.invariant-expr-loop-operator
invariant-expr-loop-operator l = record {
  partly : Partly IsExpr IsProduct (ends 1) sum_operator join (map lexeme l.fn.tokens) (expr_tree l.left) (map lexeme l.rest);
  shorter : length l.rest ≤ length l.fn.tokens;
}

abbrev pub decreases-expr-loop-operator : goal.decreases-expr-loop-operator
decreases-expr-loop-operator l = length l.rest

abbrev pub invariant-product-loop-operator : goal.invariant-product-loop-operator
invariant-product-loop-operator l = record {
  partly : Partly IsProduct IsSigned (ends 2) product_operator join (map lexeme l.fn.tokens) (expr_tree l.left) (map lexeme l.rest);
  shorter : length l.rest ≤ length l.fn.tokens;
}

abbrev pub decreases-product-loop-operator : goal.decreases-product-loop-operator
decreases-product-loop-operator l = length l.rest

abbrev pub invariant-indices-loop-read : goal.invariant-indices-loop-read
invariant-indices-loop-read l = record {
  before : BeforeItem IsExpr CloseIndex (map lexeme l.fn.tokens) (map expr_tree l.items.items) (map lexeme l.left);
  shorter : length l.left ≤ length l.fn.tokens;
}

abbrev pub decreases-indices-loop-read : goal.decreases-indices-loop-read
decreases-indices-loop-read l = length l.left
