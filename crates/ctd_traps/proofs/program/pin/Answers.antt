use Rattle.ctd_traps.proofs.Common.{AssignsAlone, AssignsElements, PinsStand, Variables, [], entries_in, if_ok_more, pins_in, subst, sym, with_pin, ◌∙◌}
use Rattle.ctd_traps.proofs.Pinning.{no_indices, pin_alone, pin_element, some_indices}
use Rattle.ctd_traps.proofs.program.pin.Goals as goal

pub returns-then-is_empty : goal.returns-then-is_empty
returns-then-is_empty c =
    let nothing = pins_in c.args.without in
    let entries = entries_in c.args.without c.args.entries.now in
    let after = entries_in c.args.without c.assign_alone.new.entries in
    let possible = c.literal_values-possible.result in
    let preset = c.args.preset.now in
    if_ok_more (λ _. AssignsAlone nothing entries c.as_slice-name.result.now possible after) (λ _. PinsStand nothing [] → (pins : Variables) → PinsStand entries pins → PinsStand after (with_pin pins preset)) c.assign_alone.result
    (λ _ so. pin_alone nothing entries after possible preset (sym c.as_slice.ensures.whole ∙ no_indices c.as_slice.result.now c.if-is_empty.ensures)
    (subst (λ name. AssignsAlone nothing entries name possible after) c.as_slice-name.ensures.whole so) c.literal_values-possible.ensures) c.assign_alone.ensures

pub returns-else-is_empty : goal.returns-else-is_empty
returns-else-is_empty c =
    let nothing = pins_in c.args.without in
    let entries = entries_in c.args.without c.args.entries.now in
    let after = entries_in c.args.without c.assign_element.new.entries in
    let possible = c.literal_values-possible.result in
    let preset = c.args.preset.now in
    if_ok_more (λ _. AssignsElements entries c.as_slice-name.result.now possible after) (λ _. PinsStand nothing [] → (pins : Variables) → PinsStand entries pins → PinsStand after (with_pin pins preset)) c.assign_element.result
    (λ _ so stand. pin_element entries after possible preset (λ none. some_indices c.as_slice.result.now c.if-is_empty.ensures (c.as_slice.ensures.whole ∙ none))
    (subst (λ name. AssignsElements entries name possible after) c.as_slice-name.ensures.whole so) c.literal_values-possible.ensures) c.assign_element.ensures
