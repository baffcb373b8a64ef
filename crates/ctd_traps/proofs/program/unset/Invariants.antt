use Rattle.ctd_traps.proofs.Common.{Bor, List, PinsStand, [], named_values, ℕ}
use Rattle.ctd_traps.proofs.program.unset.Given as goal

abbrev pub invariant-loop : goal.invariant-loop
invariant-loop l = (q : List (Bor (List ℕ))) → PinsStand (named_values q l.entries.items) []
