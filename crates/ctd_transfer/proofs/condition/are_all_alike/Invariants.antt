use Rattle.ctd_transfer.proofs.Common.{AreAllAlike, drop}
use Rattle.ctd_transfer.proofs.condition.are_all_alike.Given as goal

abbrev pub invariant-loop-other : goal.invariant-loop-other
invariant-loop-other l = AreAllAlike l.context l.state l.name (drop l.other-index l.others) → AreAllAlike l.context l.state l.name l.others
