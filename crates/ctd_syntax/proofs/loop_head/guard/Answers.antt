use Rattle.std.specs.Prelude.{map}
use Rattle.ctd_syntax.specs.inner.Front.{lexeme}
use Rattle.ctd_syntax.specs.Grammar.{IsExpr, IsTest}
use Rattle.ctd_syntax.specs.inner.Levels.{ends}
use Rattle.ctd_syntax.specs.inner.TestGrammar.{test_ends}
use Rattle.ctd_syntax.specs.inner.CommandWords.{IsGuard}
use Rattle.ctd_syntax.proofs.StayFronts.{refused_as}
use Rattle.ctd_syntax.proofs.StayCommands.{guard_times, no_guard_times, guard_while, no_guard_while}
use Rattle.ctd_syntax.proofs.loop_head.guard.Goals as goal

pub returns-in-Err-clause-tree : goal.returns-in-Err-clause-tree
returns-in-Err-clause-tree c = refused_as IsExpr (IsGuard c.args.word) (ends 1) (test_ends 1) (map lexeme c.args.tokens.now) (map lexeme c.args.tokens.now) c.in-Err.fault (no_guard_times c.args.word (map lexeme c.args.tokens.now) c.in-Rep.is) c.in-Err.ensures.tree

pub returns-in-Err-test-clause-tree : goal.returns-in-Err-test-clause-tree
returns-in-Err-test-clause-tree c = refused_as IsTest (IsGuard c.args.word) (test_ends 1) (test_ends 1) (map lexeme c.args.tokens.now) (map lexeme c.args.tokens.now) c.in-Err-test.fault (no_guard_while c.args.word (map lexeme c.args.tokens.now) c.in-While.is) c.in-Err-test.ensures.tree

pub returns-in_ok-count-in-Rep-clause-tree : goal.returns-in_ok-count-in-Rep-clause-tree
returns-in_ok-count-in-Rep-clause-tree c = rw c.in_ok-count-in-Rep.ensures.ok (guard_times c.args.word (map lexeme c.args.tokens.now) (map lexeme c.in-Ok.read.1.now) _ c.in-Rep.is c.in-Ok.ensures.tree)

pub returns-in-Ok-test-clause-tree : goal.returns-in-Ok-test-clause-tree
returns-in-Ok-test-clause-tree c = guard_while c.args.word (map lexeme c.args.tokens.now) (map lexeme c.in-Ok-test.read.1.now) _ c.in-While.is c.in-Ok-test.ensures.tree
