use Rattle.std.proofs.Common.{IfSome}
use Rattle.ctd_limits.specs.inner.Numbers.{IsToNumber}
use Rattle.ctd_limits.proofs.numbers.greatest_number.Given as goal

abbrev pub invariant-loop-b : goal.invariant-loop-b
invariant-loop-b l = IfSome l.most (λ n. IsToNumber l.highs n)
