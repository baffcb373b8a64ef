-- What never happens at a place, and the list that says so.
use Rattle.std.specs.Prelude.{◌≡◌, true, Bool, List, Contains}
use Rattle.ctd_token.specs.declared.text.Place.{Place}
use Rattle.ctd_findings.specs.declared.never.NeverAt.{NeverAt}
use Rattle.ctd_traps.specs.declared.note.EventKind.{EventKind}
use Rattle.ctd_traps.specs.declared.note.EventKind.TheVariants as events
use Rattle.ctd_traps.specs.declared.note.Note.{Note}

-- whether an event is among those that never happen
abbrev pub has_event : NeverAt → EventKind → Bool
has_event at events.Begins = at.begins
has_event at events.GoesOn = at.goes_on
has_event at events.IsTrue = at.is_true
has_event at events.IsFalse = at.is_false

-- each of these events has a property
abbrev pub AllHave : NeverAt → (EventKind → Type 0) → Type 0
AllHave at P = (event : EventKind) → has_event at event ≡ true → P event

-- a list says that an event never happens at a place
abbrev pub IsSaid : List Note → Place → EventKind → Type 0
IsSaid never place event = Contains never (record { place = place; kind = event })
