use Rattle.ctd_elements.proofs.follow.follows_from_one.Given as goal

abbrev pub invariant-loop-other : goal.invariant-loop-other
invariant-loop-other l = Unit {0}
