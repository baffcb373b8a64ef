-- What is told of all accepted files: the theorem.
use Rattle.std.specs.Prelude.{ℕ, List, [], ◌∷◌, Option, None, Some, All}
use Rattle.std.specs.Borrow.{Bor}
use Rattle.ctd_guarantees.specs.declared.guarantee.GuaranteeGroup.{GuaranteeGroup}
use Rattle.ctd_guarantees.specs.declared.part.Guarantee.{Guarantee}
use Rattle.ctd_program.specs.Tree.{CommandList}
use Rattle.ctd_program.specs.declared.preset.Preset.{Preset}
use Rattle.ctd_token.specs.declared.text.Place.{Place}
use Rattle.ctd_traps.specs.calls.Known.{EachAcceptedHas, EachFinds}
use Rattle.ctd_traps.specs.declared.joined.Moment.TheVariants as moments

-- Of each run, whatever the data, the mode and the limit of steps are: where a turn of the loop at this place has ended, all parts of a line are so of
-- the variables. Without a place: of each file that is accepted, in the end all parts are so of the variables.
abbrev pub IsSoAt : CommandList → List Preset → List (Bor (List ℕ)) → Option Place → Guarantee → Type 0
IsSoAt program presets names (Some place) line = EachFinds program presets names (record { place = place; moment = moments.TurnEnded; known = line.parts } ∷ [])
IsSoAt program presets names None line = EachAcceptedHas program presets names (Some line.parts)

-- each line of a group is so, at the place of the group
abbrev pub IsGuaranteed : CommandList → List Preset → List (Bor (List ℕ)) → GuaranteeGroup → Type 0
IsGuaranteed program presets names group = All (IsSoAt program presets names group.place) group.lines.items
