use Rattle.std.proofs.Common.{◌≡◌, map, take}
use Rattle.ctd_store.specs.Store.{value_of}
use Rattle.ctd_store.proofs.store.literal_values.Given as goal

abbrev pub invariant-loop-literal : goal.invariant-loop-literal
invariant-loop-literal l = l.values.items ≡ map value_of (take l.literal-index l.literals)
