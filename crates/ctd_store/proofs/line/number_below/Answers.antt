use Rattle.std.proofs.Common.{arith}
use Rattle.ctd_store.proofs.line.number_below.Goals as goal

pub returns-then-at-bound-clause-found : goal.returns-then-at-bound-clause-found
returns-then-at-bound-clause-found c = (omega (arith, c.if-at-bound.true), omega (arith, c.if-number-base.false))
