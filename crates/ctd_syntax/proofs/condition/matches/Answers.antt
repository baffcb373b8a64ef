use Rattle.std.specs.Prelude.{map}
use Rattle.std.proofs.lemmas.List.{length-map}
use Rattle.ctd_syntax.specs.inner.Front.{Always, IsBefore, lexeme}
use Rattle.ctd_syntax.specs.Grammar.{IsExpr}
use Rattle.ctd_syntax.specs.inner.TestGrammar.{IsTestCall}
use Rattle.ctd_token.specs.declared.token.Mark.TheVariants.{Close}
use Rattle.ctd_syntax.specs.declared.keyword.Keyword.TheVariants.{Match}
use Rattle.ctd_syntax.proofs.StayFronts.{refused_as, no_tree_as, counted_as}
use Rattle.ctd_syntax.proofs.StayTests.{match_reads, match_none, not_match}
use Rattle.ctd_syntax.proofs.condition.matches.Goals as goal

pub returns-in-Err-clause-tree : goal.returns-in-Err-clause-tree
returns-in-Err-clause-tree c = no_tree_as (IsTestCall Match) Always (map lexeme c.args.tokens.now) _ c.in-Err.fault c.in-Err.ensures.left (counted_as (IsTestCall Match) Always (map lexeme c.args.tokens.now) _ _ (length-map c.args.tokens.now lexeme) (not_match (map lexeme c.args.tokens.now) c.in-Err.ensures.none))

pub returns-in-Err-expr_before-clause-tree : goal.returns-in-Err-expr_before-clause-tree
returns-in-Err-expr_before-clause-tree c = refused_as (IsBefore Close IsExpr) (IsTestCall Match) Always Always (map lexeme c.in-Ok.read.now) (map lexeme c.args.tokens.now) c.in-Err-expr_before.fault (match_none (map lexeme c.args.tokens.now) (map lexeme c.in-Ok.read.now) c.in-Ok.ensures.found) c.in-Err-expr_before.ensures.tree

pub returns-clause-tree : goal.returns-clause-tree
returns-clause-tree c = rw c.in_ok-boxed.ensures (match_reads (map lexeme c.args.tokens.now) (map lexeme c.in-Ok.read.now) (map lexeme c.in-Ok-expr_before.read.1.now) _ c.in-Ok.ensures.found c.in-Ok-expr_before.ensures.tree)
