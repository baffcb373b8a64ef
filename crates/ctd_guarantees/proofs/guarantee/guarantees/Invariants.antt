use Rattle.std.proofs.Common.{All}
use Rattle.ctd_guarantees.specs.inner.Parts.{IsGroupOf}
use Rattle.ctd_guarantees.proofs.guarantee.guarantees.Given as goal

abbrev pub invariant-loop-i : goal.invariant-loop-i
invariant-loop-i l = All (IsGroupOf l.knowledge) l.groups.items
