use Rattle.ctd_traps.proofs.Common.{ap, faults_of, inl, subst, ◌∙◌}
use Rattle.ctd_traps.proofs.Failing.{listed_done, listed_step}
use Rattle.ctd_traps.specs.calls.Commands.{trees_of}
use Rattle.ctd_traps.specs.inner.Anything.{AreAllListed}
use Rattle.ctd_traps.proofs.anything.all_traps.Goals as goal

pub loop-entry-init : goal.loop-entry-init
loop-entry-init c = λ x has. inl has

pub loop-entry-preserved : goal.loop-entry-preserved
loop-entry-preserved c =
    let added = c.in_ok-list_command.ensures in
    listed_step (faults_of c.loop-entry.traps.items) (faults_of c.list_command.new.traps.items) c.as_slice-entry-items.result.now c.loop-entry.entry-index c.entry-item.result c.loop-entry-test.true c.entry-item.is added.more added.listed c.loop-entry.invariant

pub returns : goal.returns
returns c =
    let traps = faults_of c.loop-entry.traps.items in
    subst (AreAllListed traps) (ap trees_of c.as_slice-entry-items.ensures.value ∙ c.in_ok-entries.ensures.all)
    (listed_done traps c.as_slice-entry-items.result.now c.loop-entry.entry-index c.loop-entry-test.false c.loop-entry.invariant)
