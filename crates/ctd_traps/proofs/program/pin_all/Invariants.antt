use Rattle.ctd_traps.proofs.Common.{drop, entries_in, pins_in}
use Rattle.ctd_traps.proofs.Pinning.{PinLeads}
use Rattle.ctd_traps.proofs.program.pin_all.Given as goal

abbrev pub invariant-loop-preset : goal.invariant-loop-preset
invariant-loop-preset l = PinLeads (pins_in l.without) (entries_in l.without l.entries.items) (drop l.preset-index l.presets) l.presets
