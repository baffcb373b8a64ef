use Rattle.std.specs.Prelude.{map}
use Rattle.std.proofs.lemmas.List.{length-map}
use Rattle.ctd_syntax.specs.inner.Front.{Always, lexeme}
use Rattle.ctd_syntax.specs.Grammar.{IsExpr}
use Rattle.ctd_syntax.specs.inner.Levels.{ends}
use Rattle.ctd_syntax.specs.inner.TestGrammar.{IsLeft}
use Rattle.ctd_syntax.proofs.StayFronts.{refused_as, counted_as}
use Rattle.ctd_syntax.proofs.StayTests.{left_reads, left_unmarked, no_left}
use Rattle.ctd_syntax.proofs.condition.left_side.Goals as goal

pub returns-in-Some-clause-tree : goal.returns-in-Some-clause-tree
returns-in-Some-clause-tree c = left_reads (map lexeme c.args.tokens.now) (map lexeme c.in-Ok.read.1.now) (map lexeme c.in-Some.after.now) _ c.in-Some.by c.in-Ok.ensures.tree c.in-Some.ensures.operator

pub returns-in-Err-clause-tree : goal.returns-in-Err-clause-tree
returns-in-Err-clause-tree c = refused_as IsExpr IsLeft (ends 1) Always (map lexeme c.args.tokens.now) (map lexeme c.args.tokens.now) c.in-Err.fault (no_left (map lexeme c.args.tokens.now)) c.in-Err.ensures.tree

pub returns-in-None-clause-tree : goal.returns-in-None-clause-tree
returns-in-None-clause-tree c = counted_as IsLeft Always (map lexeme c.args.tokens.now) _ _ (length-map c.in-Ok.read.1.now lexeme) (left_unmarked (map lexeme c.args.tokens.now) (map lexeme c.in-Ok.read.1.now) _ c.in-Ok.ensures.tree c.in-None.ensures.operator)
