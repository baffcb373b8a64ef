use Rattle.ctd_traps.proofs.Common.{ap, arith, drop, entries_in, pins_in, subst, sym, with_items_is, ◌+◌}
use Rattle.ctd_traps.proofs.Pinning.{PinLeads, pin_done, pin_step}
use Rattle.ctd_traps.proofs.program.pin_all.Goals as goal

pub loop-preset-preserved : goal.loop-preset-preserved
loop-preset-preserved c =
    let g = c.args.without in
    let presets = c.args.presets.now in
    let i = c.loop-preset.preset-index in
    let entries = c.loop-preset.entries in
    let after = c.pin.new.entries in
    subst (λ l. PinLeads (pins_in g) (entries_in g l) (drop (i + 1) presets) presets) (sym (with_items_is entries after (omega arith)))
    (pin_step (pins_in g) (entries_in g entries.items) (entries_in g c.as_mut_slice.result.now) (entries_in g after) presets i c.preset-item.result (ap (entries_in g) c.as_mut_slice.ensures.value) c.loop-preset-test.true c.preset-item.is c.in_ok-pin.ensures c.loop-preset.invariant)

pub returns : goal.returns
returns c =
    let g = c.args.without in
    pin_done (pins_in g) (entries_in g c.loop-preset.entries.items) c.args.presets.now c.loop-preset.preset-index c.loop-preset-test.false c.loop-preset.invariant
