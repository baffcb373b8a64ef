use Rattle.std.specs.Prelude.{map}
use Rattle.ctd_syntax.specs.inner.Front.{Always, IsPair, lexeme}
use Rattle.ctd_syntax.specs.Grammar.{IsExpr, IsTargetEnd}
use Rattle.ctd_syntax.specs.inner.Levels.{ends}
use Rattle.ctd_syntax.proofs.StayFronts.{refused_as, pair_reads, first_none, second_none}
use Rattle.ctd_syntax.proofs.CommandReads.{before_target_end}
use Rattle.ctd_syntax.proofs.StayTargets.{some_target_end}
use Rattle.ctd_syntax.proofs.command.upper_bound.Goals as goal

pub returns-in-Err-clause-tree : goal.returns-in-Err-clause-tree
returns-in-Err-clause-tree c = refused_as IsExpr (IsPair IsExpr IsTargetEnd) (ends 1) Always (map lexeme c.args.tokens.now) (map lexeme c.args.tokens.now) c.in-Err.fault (first_none IsExpr IsTargetEnd (ends 1) Always before_target_end some_target_end (map lexeme c.args.tokens.now)) c.in-Err.ensures.tree

pub returns-in-Err-target_end-clause-tree : goal.returns-in-Err-target_end-clause-tree
returns-in-Err-target_end-clause-tree c = refused_as IsTargetEnd (IsPair IsExpr IsTargetEnd) Always Always (map lexeme c.in-Ok.read.1.now) (map lexeme c.args.tokens.now) c.in-Err-target_end.fault (second_none IsExpr IsTargetEnd (ends 1) Always before_target_end (map lexeme c.args.tokens.now) (map lexeme c.in-Ok.read.1.now) _ c.in-Ok.ensures.tree) c.in-Err-target_end.ensures.tree

pub returns-in-Ok-target_end-clause-tree : goal.returns-in-Ok-target_end-clause-tree
returns-in-Ok-target_end-clause-tree c = pair_reads IsExpr IsTargetEnd (ends 1) Always before_target_end (map lexeme c.args.tokens.now) (map lexeme c.in-Ok.read.1.now) (map lexeme c.in-Ok-target_end.rest.now) _ _ c.in-Ok.ensures.tree c.in-Ok-target_end.ensures.tree
