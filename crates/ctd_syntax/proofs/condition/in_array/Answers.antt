use Rattle.std.specs.Prelude.{map}
use Rattle.std.proofs.lemmas.List.{length-map}
use Rattle.ctd_syntax.specs.inner.Front.{Always, IsBefore, IsName, lexeme}
use Rattle.ctd_syntax.specs.Grammar.{IsExpr}
use Rattle.ctd_syntax.specs.inner.TestGrammar.{IsTestCall}
use Rattle.ctd_token.specs.declared.token.Mark.TheVariants.{Close, Comma}
use Rattle.ctd_syntax.specs.declared.keyword.Keyword.TheVariants.{InArray}
use Rattle.ctd_syntax.proofs.StayFronts.{refused_as, no_tree_as, counted_as}
use Rattle.ctd_syntax.proofs.StayTests.{in_array_reads, in_array_no_expr, in_array_no_name, not_in_array}
use Rattle.ctd_syntax.proofs.condition.in_array.Goals as goal

pub returns-in-Err-clause-tree : goal.returns-in-Err-clause-tree
returns-in-Err-clause-tree c = no_tree_as (IsTestCall InArray) Always (map lexeme c.args.tokens.now) _ c.in-Err.fault c.in-Err.ensures.left (counted_as (IsTestCall InArray) Always (map lexeme c.args.tokens.now) _ _ (length-map c.args.tokens.now lexeme) (not_in_array (map lexeme c.args.tokens.now) c.in-Err.ensures.none))

pub returns-in-Err-expr_before-clause-tree : goal.returns-in-Err-expr_before-clause-tree
returns-in-Err-expr_before-clause-tree c = refused_as (IsBefore Comma IsExpr) (IsTestCall InArray) Always Always (map lexeme c.in-Ok.read.now) (map lexeme c.args.tokens.now) c.in-Err-expr_before.fault (in_array_no_expr (map lexeme c.args.tokens.now) (map lexeme c.in-Ok.read.now) c.in-Ok.ensures.found) c.in-Err-expr_before.ensures.tree

pub returns-in-Err-last_name-clause-tree : goal.returns-in-Err-last_name-clause-tree
returns-in-Err-last_name-clause-tree c = refused_as (IsBefore Close IsName) (IsTestCall InArray) Always Always (map lexeme c.in-Ok-expr_before.read.1.now) (map lexeme c.args.tokens.now) c.in-Err-last_name.fault (in_array_no_name (map lexeme c.args.tokens.now) (map lexeme c.in-Ok.read.now) (map lexeme c.in-Ok-expr_before.read.1.now) _ c.in-Ok.ensures.found c.in-Ok-expr_before.ensures.tree) c.in-Err-last_name.ensures.tree

pub returns-in_ok-boxed-in-Ok-last_name-clause-tree : goal.returns-in_ok-boxed-in-Ok-last_name-clause-tree
returns-in_ok-boxed-in-Ok-last_name-clause-tree c = rw c.in_ok-boxed-in-Ok-last_name.ensures (in_array_reads (map lexeme c.args.tokens.now) (map lexeme c.in-Ok.read.now) (map lexeme c.in-Ok-expr_before.read.1.now) (map lexeme c.in-Ok-last_name.rest.now) _ _ c.in-Ok.ensures.found c.in-Ok-expr_before.ensures.tree c.in-Ok-last_name.ensures.tree)
