use Rattle.ctd_states.proofs.Common.{AbstractValue, AssignsElements, List, NamedValue, entries_in, refl, subst, sym}
use Rattle.ctd_states.proofs.Assigning.{assign_element}
use Rattle.ctd_states.proofs.assign.assign_element.Goals as goal

pub returns : goal.returns
returns c =
    let entries = entries_in c.args.context c.args.entries.now in
    let name = c.args.name.now in
    let value = c.in_ok-value.value in
    let new : AbstractValue = record { may_lack = value.may_lack; alone = value.alone; elements = c.in_ok-upper_bound.field-0 } in
    subst (λ (after : List NamedValue). AssignsElements entries name c.args.possible after) (sym c.replace_value.ensures)
    (assign_element entries name c.args.possible value new c.in_ok-value.ensures refl refl c.in_ok-upper_bound.ensures.left c.in_ok-upper_bound.ensures.right)
