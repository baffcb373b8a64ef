use Rattle.ctd_traps.proofs.Common.{AbstractValue, PinsStand, Vec, [], if_ok_more, named_values, pins_of, subst, sym}
use Rattle.ctd_traps.proofs.program.state_before.Goals as goal

pub returns : goal.returns
returns c =
    let names = c.args.names.now in
    let nothing : PinsStand (named_values names c.as_slice.result.now) [] = subst (λ l. PinsStand (named_values names l) []) (sym c.as_slice.ensures.value) (c.in_ok-nothing.ensures names) in
    if_ok_more (λ (v : Vec AbstractValue). PinsStand (named_values names c.as_slice.result.now) [] → PinsStand (named_values names v.items) (pins_of c.pins.result.now)) (λ (v : Vec AbstractValue). PinsStand (named_values names v.items) (pins_of c.args.presets.now)) c.pin_all.result
    (λ v pinned. subst (λ p. PinsStand (named_values names v.items) (pins_of p)) c.pins.ensures.whole (pinned nothing)) c.pin_all.ensures
