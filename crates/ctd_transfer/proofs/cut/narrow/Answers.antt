use Rattle.ctd_transfer.proofs.Common.{AbstractState, AbstractValue, Tells, ap, arith, entries_in, false, map, refl, subst, with_items, with_items_is, with_value, ◌∙◌, ◌≡◌}
use Rattle.ctd_transfer.proofs.Comparing.{name_cuts}
use Rattle.ctd_transfer.proofs.cut.narrow.Goals as goal

pub returns : goal.returns
returns c =
    let g = c.args.context in
    let st = c.args.state.now in
    let name = c.args.name.now in
    let value = c.in_ok-value.value in
    let left = c.replace_value.new.entries in
    let after : AbstractState = record { entries = with_items st.entries left; facts = st.facts } in
    let new : AbstractValue = record { may_lack = false; alone = c.cut_values.result; elements = value.elements } in
    let changed = subst (λ l. entries_in g left ≡ map (with_value name new) (entries_in g l)) c.as_mut_slice.ensures.value c.replace_value.ensures in
    name_cuts g st after name c.args.by c.args.possible value new (subst (λ l. Tells (entries_in g l) name value) c.as_slice.ensures.value c.in_ok-value.ensures) c.cut_values.ensures refl
    (ap (entries_in g) (with_items_is st.entries left (omega arith)) ∙ changed) refl
