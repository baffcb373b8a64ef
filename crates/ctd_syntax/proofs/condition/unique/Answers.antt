use Rattle.std.specs.Prelude.{map}
use Rattle.std.proofs.lemmas.List.{length-map}
use Rattle.ctd_syntax.specs.inner.Front.{Always, IsBefore, lexeme}
use Rattle.ctd_syntax.specs.Grammar.{IsNames}
use Rattle.ctd_syntax.specs.inner.TestGrammar.{IsTestCall}
use Rattle.ctd_token.specs.declared.token.Mark.TheVariants.{Close}
use Rattle.ctd_syntax.specs.declared.keyword.Keyword.TheVariants.{Unique}
use Rattle.ctd_syntax.proofs.StayFronts.{refused_as, no_tree_as, counted_as}
use Rattle.ctd_syntax.proofs.StayTests.{unique_reads, unique_none, not_unique}
use Rattle.ctd_syntax.proofs.condition.unique.Goals as goal

pub returns-in-Err-clause-tree : goal.returns-in-Err-clause-tree
returns-in-Err-clause-tree c = no_tree_as (IsTestCall Unique) Always (map lexeme c.args.tokens.now) _ c.in-Err.fault c.in-Err.ensures.left (counted_as (IsTestCall Unique) Always (map lexeme c.args.tokens.now) _ _ (length-map c.args.tokens.now lexeme) (not_unique (map lexeme c.args.tokens.now) c.in-Err.ensures.none))

pub returns-in-Err-names-clause-tree : goal.returns-in-Err-names-clause-tree
returns-in-Err-names-clause-tree c = refused_as (IsBefore Close IsNames) (IsTestCall Unique) Always Always (map lexeme c.in-Ok.read.now) (map lexeme c.args.tokens.now) c.in-Err-names.fault (unique_none (map lexeme c.args.tokens.now) (map lexeme c.in-Ok.read.now) c.in-Ok.ensures.found) c.in-Err-names.ensures.tree

pub returns-clause-tree : goal.returns-clause-tree
returns-clause-tree c = rw c.in_ok-boxed.ensures (unique_reads (map lexeme c.args.tokens.now) (map lexeme c.in-Ok.read.now) (map lexeme c.in-Ok-names.read.1.now) _ c.in-Ok.ensures.found c.in-Ok-names.ensures.tree)
