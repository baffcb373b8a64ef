-- Where findings stand, and what those mean that the analysis backs.
use Rattle.std.specs.Prelude.{◌≡◌, ◌⊎◌, List, [], ◌∷◌, map, Contains}
use Rattle.ctd_token.specs.declared.text.Place.{Place}
use Rattle.ctd_program.specs.declared.preset.Preset.{Preset}
use Rattle.ctd_program.specs.Tree.{CommandList}
use Rattle.ctd_program.specs.calls.Places.{place_of}
use Rattle.ctd_traps.specs.calls.Commands.{all_commands}
use Rattle.ctd_findings.specs.declared.finding.Finding.{Finding}
use Rattle.ctd_findings.specs.declared.kind.Kind.{Kind}
use Rattle.ctd_findings.specs.declared.kind.Kind.TheVariants as kinds
use Rattle.ctd_traps.specs.calls.Events.{NeverHappens, events_of}
use Rattle.ctd_traps.specs.declared.note.EventKind.{EventKind}
use Rattle.ctd_traps.specs.declared.note.EventKind.TheVariants as events

-- the places of all commands of a program
abbrev pub places_of : CommandList → List Place
places_of program = map place_of (all_commands program)

-- a finding stands at one of some places, or at the start of the program, where it is about a preset that the program does not mention
abbrev pub IsPlaced : List Place → Finding → Type 0
IsPlaced places f = Contains places f.place ⊎ ((f.place ≡ record { line = 1; column = 1 }) × (f.remark.kind ≡ kinds.UnknownPreset))

-- in no run does an event happen at a place
abbrev pub Never : CommandList → List Preset → Place → EventKind → Type 0
Never program presets place event = NeverHappens program presets (events_of (record { place = place; kind = event } ∷ []))

-- what a finding of a kind says of its place, by what never happens there; other kinds say nothing of runs
abbrev pub Says : Kind → (EventKind → Type 0) → Type 0
Says kinds.Unreachable never = never events.Begins
Says kinds.AlwaysTrue never = never events.IsFalse
Says kinds.AlwaysFalse never = never events.IsTrue
Says kinds.RangeTrue never = never events.IsFalse
Says kinds.RangeFalse never = never events.IsTrue
Says kinds.RepeatsBounds never = never events.IsFalse
Says kinds.EmptyRange never = never events.GoesOn
Says kinds.WrongSort never = never events.GoesOn ⊎ (never events.IsTrue × never events.IsFalse)
Says kind never = Unit {0}

-- what a finding says of its place is so in all runs
abbrev pub IsTrueOfRuns : CommandList → List Preset → Finding → Type 0
IsTrueOfRuns program presets f = Says f.remark.kind (Never program presets f.place)
