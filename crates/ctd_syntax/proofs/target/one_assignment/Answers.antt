use Rattle.std.specs.Prelude.{map}
use Rattle.ctd_syntax.specs.inner.Front.{Always, IsBefore, IsAssignment, lexeme}
use Rattle.ctd_syntax.specs.Grammar.{IsExpr, IsTarget}
use Rattle.ctd_syntax.specs.inner.Levels.{ends}
use Rattle.ctd_token.specs.declared.token.Mark.TheVariants.{Assign}
use Rattle.ctd_syntax.proofs.StayFronts.{refused_as}
use Rattle.ctd_syntax.proofs.StayTargets.{assignment_reads, assignment_no_target, assignment_no_value}
use Rattle.ctd_syntax.proofs.target.one_assignment.Goals as goal

pub returns-in-Err-clause-tree : goal.returns-in-Err-clause-tree
returns-in-Err-clause-tree c = refused_as (IsBefore Assign IsTarget) IsAssignment Always (ends 1) (map lexeme c.args.tokens.now) (map lexeme c.args.tokens.now) c.in-Err.fault (assignment_no_target (map lexeme c.args.tokens.now)) c.in-Err.ensures.tree

pub returns-in-Err-expr-clause-tree : goal.returns-in-Err-expr-clause-tree
returns-in-Err-expr-clause-tree c = refused_as IsExpr IsAssignment (ends 1) (ends 1) (map lexeme c.in-Ok.read.1.now) (map lexeme c.args.tokens.now) c.in-Err-expr.fault (assignment_no_value (map lexeme c.args.tokens.now) (map lexeme c.in-Ok.read.1.now) _ c.in-Ok.ensures.tree) c.in-Err-expr.ensures.tree

pub returns-in-Ok-expr-clause-tree : goal.returns-in-Ok-expr-clause-tree
returns-in-Ok-expr-clause-tree c = assignment_reads (map lexeme c.args.tokens.now) (map lexeme c.in-Ok.read.1.now) (map lexeme c.in-Ok-expr.rest.now) _ _ c.in-Ok.ensures.tree c.in-Ok-expr.ensures.tree
