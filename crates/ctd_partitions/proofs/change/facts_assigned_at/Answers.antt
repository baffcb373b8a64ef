use Rattle.std.proofs.Common.{refl}
use Rattle.ctd_element_changes.specs.declared.element.Target.{Target}
use Rattle.ctd_partitions.proofs.Changing.{element_facts}
use Rattle.ctd_partitions.proofs.change.facts_assigned_at.Goals as goal

pub returns-in_ok-changed-in-Some : goal.returns-in_ok-changed-in-Some
returns-in_ok-changed-in-Some c =
    let at = c.args.at in
    let target : Target = record { array = c.in-Some.array; cell = at.cell; source = at.source; is_free = c.in_ok-is_free.is_free } in
    element_facts c.args.context c.args.state.now c.view_of-view.result c.args.name.now target at c.args.limits c.in_ok-staying-in-Some.staying.items c.in_ok-changed-in-Some.changed.items c.view_of-view.ensures c.in-Some.ensures.named refl refl
    c.in_ok-is_free.ensures c.in_ok-staying-in-Some.ensures c.in_ok-changed-in-Some.ensures
