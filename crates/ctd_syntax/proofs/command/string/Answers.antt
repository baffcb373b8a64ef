use Rattle.std.specs.Prelude.{map}
use Rattle.std.proofs.lemmas.List.{length-map}
use Rattle.ctd_program.specs.Tree
use Rattle.ctd_syntax.specs.inner.Front.{Always, IsBefore, lexeme}
use Rattle.ctd_syntax.specs.Grammar.{IsExpr}
use Rattle.ctd_syntax.specs.inner.CommandWords.{IsCommandRest}
use Rattle.ctd_token.specs.declared.token.Mark.TheVariants.{Close}
use Rattle.ctd_syntax.specs.declared.keyword.Keyword.TheVariants as words
use Rattle.ctd_syntax.proofs.StayFronts.{refused_as, no_tree_as, counted_as}
use Rattle.ctd_syntax.proofs.StayCommands.{opened_reads, opened_none, not_opened, before_of}
use Rattle.ctd_syntax.proofs.StayAtoms.{some_expr}
use Rattle.ctd_syntax.proofs.command.string.Goals as goal

pub returns-in-Err-clause-tree : goal.returns-in-Err-clause-tree
returns-in-Err-clause-tree c = no_tree_as (IsCommandRest words.String c.args.place) Always (map lexeme c.args.tokens.now) _ c.in-Err.fault c.in-Err.ensures.left (counted_as (IsCommandRest words.String c.args.place) Always (map lexeme c.args.tokens.now) _ _ (length-map c.args.tokens.now lexeme) (not_opened (Tree.string c.args.place) (IsBefore Close IsExpr) Always (before_of Close IsExpr some_expr) (map lexeme c.args.tokens.now) c.in-Err.ensures.none))

pub returns-in-Err-expr_before-clause-tree : goal.returns-in-Err-expr_before-clause-tree
returns-in-Err-expr_before-clause-tree c = refused_as (IsBefore Close IsExpr) (IsCommandRest words.String c.args.place) Always Always (map lexeme c.in-Ok.read.now) (map lexeme c.args.tokens.now) c.in-Err-expr_before.fault (opened_none (Tree.string c.args.place) (IsBefore Close IsExpr) Always (map lexeme c.args.tokens.now) (map lexeme c.in-Ok.read.now) c.in-Ok.ensures.found) c.in-Err-expr_before.ensures.tree

pub returns-clause-tree : goal.returns-clause-tree
returns-clause-tree c = rw c.in_ok-new.ensures.ok (opened_reads (Tree.string c.args.place) (IsBefore Close IsExpr) Always (map lexeme c.args.tokens.now) (map lexeme c.in-Ok.read.now) (map lexeme c.in-Ok-expr_before.read.1.now) _ c.in-Ok.ensures.found c.in-Ok-expr_before.ensures.tree)
