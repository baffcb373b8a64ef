-- What the slot of a name has.
use Rattle.std.specs.Prelude.{ℕ, List, slice_get, option_map, Option}
use Rattle.ctd_store.specs.declared.slot.Slot.{Slot}

-- the name at a position
abbrev pub name_in : List Slot → ℕ → Option (List ℕ)
name_in slots at = option_map (λ s. s.name) (slice_get slots at)
