use Rattle.ctd_traps.proofs.Common.{SparesNames, drop}
use Rattle.ctd_traps.proofs.spare.spares_names.Given as goal

abbrev pub invariant-loop-other : goal.invariant-loop-other
invariant-loop-other l = SparesNames l.name (drop l.other-index l.names) → SparesNames l.name l.names
