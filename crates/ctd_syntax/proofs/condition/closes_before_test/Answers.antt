use Rattle.std.specs.Prelude.{map, drop}
use Rattle.ctd_syntax.specs.inner.Front.{lexeme}
use Rattle.ctd_syntax.specs.inner.TestGrammar.{closes_before_test}
use Rattle.ctd_syntax.proofs.TestGroups.{exhausted}
use Rattle.ctd_syntax.proofs.condition.closes_before_test.Goals as goal

pub returns-after-loop-closed-clause-none : goal.returns-after-loop-closed-clause-none
returns-after-loop-closed-clause-none c = exhausted c.loop-closed.closed c.args.limit (closes_before_test 0 (map lexeme c.args.tokens.now)) (closes_before_test c.loop-closed.depth (map lexeme (drop c.loop-closed.n c.args.tokens.now))) c.loop-closed.invariant.same c.loop-closed-test.false
