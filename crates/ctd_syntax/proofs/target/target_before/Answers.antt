use Rattle.std.proofs.Common.{arith}
use Rattle.std.specs.Prelude.{map}
use Rattle.std.proofs.lemmas.List.{length-map}
use Rattle.ctd_syntax.specs.inner.Front.{Always, IsBefore, lexeme}
use Rattle.ctd_syntax.specs.Grammar.{IsTarget}
use Rattle.ctd_syntax.specs.inner.Levels.{ends}
use Rattle.ctd_syntax.proofs.StayFronts.{before_reads, before_none, none_before, refused_as, counted_as}
use Rattle.ctd_syntax.proofs.target.target_before.Goals as goal

pub returns-in-Some-clause-tree : goal.returns-in-Some-clause-tree
returns-in-Some-clause-tree c = before_reads IsTarget (ends 4) c.args.mark (λ us. omega (arith, c.requires.ends)) (map lexeme c.args.tokens.now) (map lexeme c.in-Ok.read.1.now) (map lexeme c.in-Some.rest.now) _ c.in-Ok.ensures.tree c.in-Some.ensures.found

pub returns-in-Err-clause-tree : goal.returns-in-Err-clause-tree
returns-in-Err-clause-tree c = refused_as IsTarget (IsBefore c.args.mark IsTarget) (ends 4) Always (map lexeme c.args.tokens.now) (map lexeme c.args.tokens.now) c.in-Err.fault (none_before IsTarget (ends 4) c.args.mark (λ us. omega (arith, c.requires.ends)) (map lexeme c.args.tokens.now)) c.in-Err.ensures.tree

pub returns-in-None-clause-tree : goal.returns-in-None-clause-tree
returns-in-None-clause-tree c = counted_as (IsBefore c.args.mark IsTarget) Always (map lexeme c.args.tokens.now) _ _ (length-map c.in-Ok.read.1.now lexeme) (before_none IsTarget (ends 4) c.args.mark (λ us. omega (arith, c.requires.ends)) (map lexeme c.args.tokens.now) (map lexeme c.in-Ok.read.1.now) _ c.in-Ok.ensures.tree c.in-None.ensures.none)
