use Rattle.std.specs.Prelude.{map}
use Rattle.ctd_syntax.specs.inner.Front.{Always, IsBefore, lexeme}
use Rattle.ctd_syntax.specs.Grammar.{IsTarget}
use Rattle.ctd_syntax.specs.inner.CommandWords.{IsCounter}
use Rattle.ctd_token.specs.declared.token.Mark.TheVariants.{Comma}
use Rattle.ctd_syntax.proofs.StayFronts.{refused_as}
use Rattle.ctd_syntax.proofs.StayCommands.{counter_reads, counter_none}
use Rattle.ctd_syntax.proofs.loop_head.counter.Goals as goal

pub returns-in-Err-clause-tree : goal.returns-in-Err-clause-tree
returns-in-Err-clause-tree c = refused_as (IsBefore Comma IsTarget) (IsCounter c.args.word) Always Always (map lexeme c.args.tokens.now) (map lexeme c.args.tokens.now) c.in-Err.fault (counter_none c.args.word (map lexeme c.args.tokens.now) c.in-RepI.is) c.in-Err.ensures.tree

pub returns-in_ok-counter-in-RepI-clause-tree : goal.returns-in_ok-counter-in-RepI-clause-tree
returns-in_ok-counter-in-RepI-clause-tree c = rw c.in_ok-counter-in-RepI.ensures.ok (counter_reads c.args.word (map lexeme c.args.tokens.now) (map lexeme c.in-Ok.read.1.now) _ c.in-RepI.is c.in-Ok.ensures.tree)
