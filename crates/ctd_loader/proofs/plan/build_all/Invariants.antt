use Rattle.std.proofs.Common.{take, All}
use Rattle.ctd_pattern.specs.Pattern.{IsPattern}
use Rattle.ctd_loader.specs.inner.Literals.{literals_at}
use Rattle.ctd_loader.specs.Loading.{ArePatterns}
use Rattle.ctd_loader.proofs.plan.build_all.Given as goal

abbrev pub invariant-loop-arguments : goal.invariant-loop-arguments
invariant-loop-arguments l = ArePatterns (literals_at (take l.arguments-index l.literals)) × All IsPattern l.patterns.items
