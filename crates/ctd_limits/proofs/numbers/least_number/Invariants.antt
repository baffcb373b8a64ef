use Rattle.std.proofs.Common.{IfSome}
use Rattle.ctd_limits.specs.inner.Numbers.{IsFromNumber}
use Rattle.ctd_limits.proofs.numbers.least_number.Given as goal

abbrev pub invariant-loop-b : goal.invariant-loop-b
invariant-loop-b l = IfSome l.least (λ n. IsFromNumber l.lows n)
