-- What is found piece by piece, as long as there is memory for it.
use Rattle.std.specs.Prelude.{◌≡◌, ◌++◌, List, Option, Some, None, if◌then◌else◌}
use Rattle.ctd_traps.specs.declared.collector.Collector.{Collector}

-- what was found, as a view of the items has it; nothing once memory ran out for one
abbrev pub seen_in : {T U : Type 0} → (List T → List U) → Collector T → Option (List U)
seen_in view found = if found.is_complete then Some (view found.items.items) else None

-- the items themselves
abbrev pub items_in : {T : Type 0} → Collector T → Option (List T)
items_in found = seen_in (λ items. items) found

-- more is found, unless memory runs out
abbrev pub Adds : {U : Type 0} → Option (List U) → List U → Option (List U) → Type 0
Adds before part None = Unit {0}
Adds None part (Some after) = ⊥
Adds (Some before) part (Some after) = after ≡ before ++ part
