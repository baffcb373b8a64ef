use Rattle.ctd_elements.proofs.limits.is_up_to.Given as goal

abbrev pub invariant-loop-high : goal.invariant-loop-high
invariant-loop-high l = Unit {0}
