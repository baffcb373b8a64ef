use Rattle.ctd_findings.proofs.Common.{AllHave, IsSaid, length, ◌-◌}
use Rattle.ctd_findings.proofs.never.never_at.Given as goal

abbrev pub invariant-loop-next : goal.invariant-loop-next
invariant-loop-next l = AllHave l.at (IsSaid l.never l.place)

abbrev pub decreases-loop-next : goal.decreases-loop-next
decreases-loop-next l = length l.never - l.next
