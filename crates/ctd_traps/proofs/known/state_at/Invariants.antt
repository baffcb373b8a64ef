use Rattle.ctd_traps.proofs.Common.{drop}
use Rattle.ctd_traps.proofs.Knowing.{LeftOr}
use Rattle.ctd_traps.proofs.known.state_at.Given as goal

abbrev pub invariant-loop-joined : goal.invariant-loop-joined
invariant-loop-joined l = LeftOr l.context (drop l.joined-index l.states) l.states l.place l.moment l.all
