use Rattle.std.specs.Prelude.{map}
use Rattle.std.proofs.lemmas.List.{length-map}
use Rattle.ctd_syntax.specs.inner.Front.{Always, IsBefore, lexeme}
use Rattle.ctd_syntax.specs.Grammar.{IsTarget, IsTargetEnd}
use Rattle.ctd_token.specs.declared.token.Mark.TheVariants.{Close}
use Rattle.ctd_syntax.proofs.StayFronts.{refused_as, counted_as}
use Rattle.ctd_syntax.proofs.StayTargets.{end_closes, end_reads, end_none, end_other}
use Rattle.ctd_syntax.proofs.target.target_end.Goals as goal

pub returns-in-Some-clause-tree : goal.returns-in-Some-clause-tree
returns-in-Some-clause-tree c = end_closes (map lexeme c.args.tokens.now) (map lexeme c.in-Some.rest.now) c.in-Some.ensures.found

pub returns-in-Err-clause-tree : goal.returns-in-Err-clause-tree
returns-in-Err-clause-tree c = refused_as (IsBefore Close IsTarget) IsTargetEnd Always Always (map lexeme c.in-Some-after_mark.after.now) (map lexeme c.args.tokens.now) c.in-Err.fault (end_none (map lexeme c.args.tokens.now) (map lexeme c.in-Some-after_mark.after.now) c.in-Some-after_mark.ensures.found) c.in-Err.ensures.tree

pub returns-clause-tree : goal.returns-clause-tree
returns-clause-tree c = end_reads (map lexeme c.args.tokens.now) (map lexeme c.in-Some-after_mark.after.now) (map lexeme c.in-Ok.read.1.now) _ c.in-Some-after_mark.ensures.found c.in-Ok.ensures.tree

pub returns-in_default-after_mark-clause-tree : goal.returns-in_default-after_mark-clause-tree
returns-in_default-after_mark-clause-tree c = counted_as IsTargetEnd Always (map lexeme c.args.tokens.now) _ _ (length-map c.args.tokens.now lexeme) (end_other (map lexeme c.args.tokens.now) c.in_default.ensures.none c.in_default-after_mark.ensures.none)
