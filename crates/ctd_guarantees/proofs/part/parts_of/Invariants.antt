use Rattle.ctd_guarantees.specs.inner.Parts.{FollowFrom}
use Rattle.ctd_guarantees.proofs.part.parts_of.Given as goal

abbrev pub invariant-loop-pick : goal.invariant-loop-pick
invariant-loop-pick l = FollowFrom l.known l.parts.items
