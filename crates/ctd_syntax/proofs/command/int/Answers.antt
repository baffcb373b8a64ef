use Rattle.std.specs.Prelude.{map}
use Rattle.std.proofs.lemmas.List.{length-map}
use Rattle.ctd_program.specs.Tree
use Rattle.ctd_syntax.specs.inner.Front.{Always, IsBefore, IsPair, lexeme}
use Rattle.ctd_syntax.specs.Grammar.{IsExpr, IsTargetEnd}
use Rattle.ctd_syntax.specs.inner.CommandWords.{IsCommandRest}
use Rattle.ctd_token.specs.declared.token.Mark.TheVariants.{Comma}
use Rattle.ctd_syntax.specs.declared.keyword.Keyword.TheVariants as words
use Rattle.ctd_syntax.proofs.StayFronts.{refused_as, pair_reads, first_none, second_none, no_tree_as, counted_as}
use Rattle.ctd_syntax.proofs.CommandReads.{whatever}
use Rattle.ctd_syntax.proofs.StayCommands.{opened_reads, opened_none, not_opened, pair_of, before_of, some_upper}
use Rattle.ctd_syntax.proofs.StayAtoms.{some_expr}
use Rattle.ctd_syntax.proofs.command.int.Goals as goal

pub returns-in-Err-clause-tree : goal.returns-in-Err-clause-tree
returns-in-Err-clause-tree c = no_tree_as (IsCommandRest words.Int c.args.place) Always (map lexeme c.args.tokens.now) _ c.in-Err.fault c.in-Err.ensures.left (counted_as (IsCommandRest words.Int c.args.place) Always (map lexeme c.args.tokens.now) _ _ (length-map c.args.tokens.now lexeme) (not_opened (λ x. Tree.int c.args.place x.0 x.1.0 x.1.1) (IsPair (IsBefore Comma IsExpr) (IsPair IsExpr IsTargetEnd)) Always (pair_of (IsBefore Comma IsExpr) (IsPair IsExpr IsTargetEnd) (before_of Comma IsExpr some_expr) some_upper) (map lexeme c.args.tokens.now) c.in-Err.ensures.none))

pub returns-in-Err-expr_before-clause-tree : goal.returns-in-Err-expr_before-clause-tree
returns-in-Err-expr_before-clause-tree c = refused_as (IsBefore Comma IsExpr) (IsCommandRest words.Int c.args.place) Always Always (map lexeme c.in-Ok.read.now) (map lexeme c.args.tokens.now) c.in-Err-expr_before.fault (λ left not. opened_none (λ x. Tree.int c.args.place x.0 x.1.0 x.1.1) (IsPair (IsBefore Comma IsExpr) (IsPair IsExpr IsTargetEnd)) Always (map lexeme c.args.tokens.now) (map lexeme c.in-Ok.read.now) c.in-Ok.ensures.found left (first_none (IsBefore Comma IsExpr) (IsPair IsExpr IsTargetEnd) Always Always (whatever (IsPair IsExpr IsTargetEnd)) some_upper (map lexeme c.in-Ok.read.now) left not)) c.in-Err-expr_before.ensures.tree

pub returns-in-Err-upper_bound-clause-tree : goal.returns-in-Err-upper_bound-clause-tree
returns-in-Err-upper_bound-clause-tree c = refused_as (IsPair IsExpr IsTargetEnd) (IsCommandRest words.Int c.args.place) Always Always (map lexeme c.in-Ok-expr_before.read.1.now) (map lexeme c.args.tokens.now) c.in-Err-upper_bound.fault (λ left not. opened_none (λ x. Tree.int c.args.place x.0 x.1.0 x.1.1) (IsPair (IsBefore Comma IsExpr) (IsPair IsExpr IsTargetEnd)) Always (map lexeme c.args.tokens.now) (map lexeme c.in-Ok.read.now) c.in-Ok.ensures.found left (second_none (IsBefore Comma IsExpr) (IsPair IsExpr IsTargetEnd) Always Always (whatever (IsPair IsExpr IsTargetEnd)) (map lexeme c.in-Ok.read.now) (map lexeme c.in-Ok-expr_before.read.1.now) _ c.in-Ok-expr_before.ensures.tree left not)) c.in-Err-upper_bound.ensures.tree

pub returns-in_ok-new-in-Ok-upper_bound-clause-tree : goal.returns-in_ok-new-in-Ok-upper_bound-clause-tree
returns-in_ok-new-in-Ok-upper_bound-clause-tree c = rw c.in_ok-new-in-Ok-upper_bound.ensures.ok (opened_reads (λ x. Tree.int c.args.place x.0 x.1.0 x.1.1) (IsPair (IsBefore Comma IsExpr) (IsPair IsExpr IsTargetEnd)) Always (map lexeme c.args.tokens.now) (map lexeme c.in-Ok.read.now) (map lexeme c.in-Ok-upper_bound.rest.now) _ c.in-Ok.ensures.found (pair_reads (IsBefore Comma IsExpr) (IsPair IsExpr IsTargetEnd) Always Always (whatever (IsPair IsExpr IsTargetEnd)) (map lexeme c.in-Ok.read.now) (map lexeme c.in-Ok-expr_before.read.1.now) (map lexeme c.in-Ok-upper_bound.rest.now) _ _ c.in-Ok-expr_before.ensures.tree c.in-Ok-upper_bound.ensures.tree))
