use Rattle.ctd_range.proofs.Common.{arith, ints}
use Rattle.ctd_range.proofs.order.same.Goals as goal

pub returns : goal.returns
returns c = record { refines = λ n x a b. c.at_least.ensures.refines n x x (omega (arith, ints)) (c.at_most.ensures.refines n x x (omega (arith, ints)) a b) b }
