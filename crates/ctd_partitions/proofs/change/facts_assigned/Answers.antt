use Rattle.std.proofs.Common.{[], subst}
use Rattle.ctd_partitions.specs.calls.States.{IsPinnedBy}
use Rattle.ctd_partitions.proofs.Changing.{when_ok}
use Rattle.ctd_partitions.proofs.change.facts_assigned.Goals as goal

pub returns : goal.returns
returns c = when_ok c.facts_given.result (λ after gives. gives (subst (λ b. IsPinnedBy c.args.context c.args.name.now [] b) c.if-branch.false c.in_ok-is_pinned.ensures)) c.facts_given.ensures
