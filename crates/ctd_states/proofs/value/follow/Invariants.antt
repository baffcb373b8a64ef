use Rattle.ctd_states.proofs.Common.{Bor, List, drop, named_values, ℕ}
use Rattle.ctd_states.proofs.Standing.{Leads}
use Rattle.ctd_states.proofs.value.follow.Given as goal

abbrev pub invariant-loop-i : goal.invariant-loop-i
invariant-loop-i l = (names : List (Bor (List ℕ))) → Leads (named_values names l.entries) (drop l.i (named_values names l.others)) (named_values names l.others)
