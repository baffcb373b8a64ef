-- Findings that are collected: they have their places, and the list of what never happens says what they say.
use Rattle.std.specs.Prelude.{List, map, All, IfSome}
use Rattle.ctd_token.specs.declared.text.Place.{Place}
use Rattle.ctd_traps.specs.declared.block.CommandInBlock.{CommandInBlock}
use Rattle.ctd_traps.specs.declared.collector.Collector.{Collector}
use Rattle.ctd_traps.specs.calls.Collector.{items_in}
use Rattle.ctd_findings.specs.declared.finding.Finding.{Finding}
use Rattle.ctd_findings.specs.calls.Findings.{IsPlaced, Says}
use Rattle.ctd_findings.specs.inner.Never.{IsSaid}
use Rattle.ctd_traps.specs.declared.note.Note.{Note}

-- the places of commands behind references
abbrev pub places_in : List CommandInBlock → List Place
places_in commands = map (λ c. c.command.now.place) commands

-- a finding has its place, and the list says what it says
abbrev pub IsSound : List Place → List Note → Finding → Type 0
IsSound places never f = IsPlaced places f × Says f.remark.kind (IsSaid never f.place)

-- all findings so far are sound
abbrev pub AllSound : List Place → List Note → Collector Finding → Type 0
AllSound places never found = IfSome (items_in found) (All (IsSound places never))
