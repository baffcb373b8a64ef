use Rattle.ctd_limits.specs.inner.Elements.{HighsOfElement}
use Rattle.ctd_limits.proofs.element.highs_of_element.Given as goal

abbrev pub invariant-loop-fact : goal.invariant-loop-fact
invariant-loop-fact l = HighsOfElement l.state l.array l.first l.second l.all.items
