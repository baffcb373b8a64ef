use Rattle.ctd_states.proofs.Common.{Bor, List, PaysStep, length, named_values, ℕ, ◌≡◌}
use Rattle.ctd_states.proofs.steps.after_step.Given as goal

abbrev pub invariant-loop-value : goal.invariant-loop-value
invariant-loop-value l = (length l.after.items ≡ l.value-index) × ((names : List (Bor (List ℕ))) → PaysStep (named_values names l.entries) (named_values names l.after.items))
