-- What the slot of a name has.
use Rattle.std.specs.Prelude.{List, [], map}
use Rattle.std.specs.Option.{unwrap_or}
use Rattle.ctd_store.specs.declared.slot.Slot.{Slot}
use Rattle.ctd_store.specs.Store.{Array, Variables}

-- what is pinned of a name
abbrev pub pins_in : Slot → Array
pins_in s = unwrap_or s.pins []

-- what is assigned to it
abbrev pub values_in : Slot → Array
values_in s = s.values

-- names with one or the other
abbrev pub arrays_by : (Slot → Array) → List Slot → Variables
arrays_by part slots = map (λ s. (s.name, part s)) slots
