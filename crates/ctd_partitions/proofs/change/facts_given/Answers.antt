use Rattle.ctd_partitions.proofs.Changing.{name_facts}
use Rattle.ctd_partitions.proofs.change.facts_given.Goals as goal

pub returns-in_ok-changed-in-Some : goal.returns-in_ok-changed-in-Some
returns-in_ok-changed-in-Some c =
    name_facts c.args.context c.args.state.now c.view_of-view.result c.args.name.now c.args.limits c.in_ok-staying-in-Some.staying.items c.in_ok-changed-in-Some.changed.items c.view_of-view.ensures c.in_ok-staying-in-Some.ensures c.in_ok-changed-in-Some.ensures
