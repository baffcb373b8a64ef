use Rattle.ctd_elements.proofs.limits.is_from.Given as goal

abbrev pub invariant-loop-low : goal.invariant-loop-low
invariant-loop-low l = Unit {0}
