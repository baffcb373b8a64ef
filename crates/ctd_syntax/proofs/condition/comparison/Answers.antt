use Rattle.std.specs.Prelude.{map}
use Rattle.ctd_syntax.specs.inner.Front.{Always, lexeme}
use Rattle.ctd_syntax.specs.Grammar.{IsExpr}
use Rattle.ctd_syntax.specs.inner.Levels.{ends}
use Rattle.ctd_syntax.specs.inner.TestGrammar.{IsLeft, IsComparison}
use Rattle.ctd_syntax.proofs.StayFronts.{refused_as}
use Rattle.ctd_syntax.proofs.StayTests.{compared_reads, compared_no_left, compared_no_right}
use Rattle.ctd_syntax.proofs.condition.comparison.Goals as goal

pub returns-in-Err-clause-tree : goal.returns-in-Err-clause-tree
returns-in-Err-clause-tree c = refused_as IsLeft IsComparison Always (ends 1) (map lexeme c.args.tokens.now) (map lexeme c.args.tokens.now) c.in-Err.fault (compared_no_left (map lexeme c.args.tokens.now)) c.in-Err.ensures.tree

pub returns-in-Err-expr-clause-tree : goal.returns-in-Err-expr-clause-tree
returns-in-Err-expr-clause-tree c = refused_as IsExpr IsComparison (ends 1) (ends 1) (map lexeme c.in-Ok.read.1.now) (map lexeme c.args.tokens.now) c.in-Err-expr.fault (compared_no_right (map lexeme c.args.tokens.now) (map lexeme c.in-Ok.read.1.now) _ c.in-Ok.ensures.tree) c.in-Err-expr.ensures.tree

pub returns-in_ok-boxed-in-Ok-expr-clause-tree : goal.returns-in_ok-boxed-in-Ok-expr-clause-tree
returns-in_ok-boxed-in-Ok-expr-clause-tree c = rw c.in_ok-boxed-in-Ok-expr.ensures (compared_reads (map lexeme c.args.tokens.now) (map lexeme c.in-Ok.read.1.now) (map lexeme c.in-Ok-expr.rest.now) _ _ c.in-Ok.ensures.tree c.in-Ok-expr.ensures.tree)
