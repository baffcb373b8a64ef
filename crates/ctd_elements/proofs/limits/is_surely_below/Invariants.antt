use Rattle.ctd_elements.proofs.limits.is_surely_below.Given as goal

abbrev pub invariant-loop-high : goal.invariant-loop-high
invariant-loop-high l = Unit {0}
