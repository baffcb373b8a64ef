use Rattle.std.proofs.Common.{drop}
use Rattle.ctd_partitions.specs.calls.Partitions.{OneStands}
use Rattle.ctd_partitions.proofs.Joining.{RestOr}
use Rattle.ctd_partitions.proofs.partition.are_within.Given as goal

abbrev pub invariant-loop-state : goal.invariant-loop-state
invariant-loop-state l = RestOr l.context (drop l.state-index l.states) l.states (λ n h. OneStands l.context l.others n h)
