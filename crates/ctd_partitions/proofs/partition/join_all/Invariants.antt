use Rattle.std.proofs.Common.{drop}
use Rattle.ctd_partitions.specs.calls.States.{StateStands}
use Rattle.ctd_partitions.proofs.Joining.{RestOr}
use Rattle.ctd_partitions.proofs.partition.join_all.Given as goal

abbrev pub invariant-loop-state : goal.invariant-loop-state
invariant-loop-state l = RestOr l.context (drop l.state-index l.states) l.states (λ n h. StateStands l.context l.all n h)
