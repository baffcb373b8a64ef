-- What is known of the variables of runs: the theorems.
use Rattle.std.specs.Prelude.{◌≡◌, ◌<◌, ◌≤◌, ◌^◌, ℕ, List, [], ◌∷◌, ◌++◌, length, ◌≤ℤ◌, Option, None, Some, Contains}
use Rattle.std.specs.Global.{Vec}
use Rattle.std.specs.Borrow.{Bor}
use Rattle.ctd_check.specs.Run.{all_done, run_from}
use Rattle.ctd_elements.specs.calls.Blocks.{Stands}
use Rattle.ctd_range.specs.declared.range.Range.{Range}
use Rattle.ctd_states.specs.calls.States.{at_key, name_at}
use Rattle.ctd_states.specs.declared.value.Lengths.{Lengths}
use Rattle.ctd_states.specs.declared.value.PossibleValues.{PossibleValues}
use Rattle.ctd_store.specs.Store.{Bindings, value_at}
use Rattle.ctd_store.specs.declared.value.Value.{Value}
use Rattle.ctd_store.specs.declared.value.Value.TheVariants as values
use Rattle.ctd_traps.specs.Prelude.{CommandList, Mode, Preset, State, TestData, at_start, finish, tasks}
use Rattle.ctd_traps.specs.calls.Events.{HasEachEvent, finds}
use Rattle.ctd_traps.specs.declared.known.Known.{Known}
use Rattle.ctd_traps.specs.declared.known.KnownAt.{KnownAt}
use Rattle.ctd_traps.specs.declared.known.Known.TheVariants as kinds

-- a value is a number of a range, or a string of a length, that is possible
abbrev pub IsOneOf : PossibleValues → Value → Type 0
IsOneOf possible (values.Int x) = (r : Range) × (possible.number ≡ Some r) × (r.low ≤ℤ x) × (x ≤ℤ r.high)
IsOneOf possible (values.Text bytes) =
    (l : Lengths) × (possible.text ≡ Some l) × (l.least ≤ length bytes) × (length bytes ≤ l.most)

-- what is known is so of some variables
abbrev pub IsSo : List (Bor (List ℕ)) → Bindings → Known → Type 0
IsSo names h (kinds.Has i possible) =
    (v : Value) × (value_at h (at_key (name_at names i) []) ≡ Some v) × IsOneOf possible v
IsSo names h (kinds.MayHave i possible) =
    (v : Value) → value_at h (at_key (name_at names i) []) ≡ Some v → IsOneOf possible v
IsSo names h (kinds.Elements i possible) = (j : Value) (js : List Value) (v : Value) →
    value_at h (at_key (name_at names i) (j ∷ js)) ≡ Some v → IsOneOf possible v
IsSo names h (kinds.Beside fact) = Stands names h fact

-- so is all that is known
abbrev pub AreSo : List (Bor (List ℕ)) → Bindings → List Known → Type 0
AreSo names h known = (k : Known) → Contains known k → IsSo names h k

-- so is all that is known, if anything is; else no run comes there
abbrev pub IsKnownOf : List (Bor (List ℕ)) → Bindings → Option (Vec Known) → Type 0
IsKnownOf names h None = ⊥
IsKnownOf names h (Some known) = AreSo names h known.items

-- Of each file that is accepted, whatever the mode and the limit of steps are: in the end all of this is so of the variables.
abbrev pub EachAcceptedHas : CommandList → List Preset → List (Bor (List ℕ)) → Option (Vec Known) → Type 0
EachAcceptedHas program presets names known =
    (mode : Mode) (d : TestData) (steps left : ℕ) (after : State) → steps < 2 ^ 64 →
    run_from d steps (tasks program ++ finish ∷ []) (at_start mode presets) ≡ all_done after left →
    IsKnownOf names after.store known

-- Of each run, whatever the data, the mode and the limit of steps are: where it comes to a place of these, all that is known there
-- at this moment is so of the variables.
abbrev pub EachFinds : CommandList → List Preset → List (Bor (List ℕ)) → List KnownAt → Type 0
EachFinds program presets names known = (x : KnownAt) (h : Bindings) → Contains known x → HasEachEvent program presets
    (λ place event. place ≡ x.place → event ≡ finds x.moment h → AreSo names h x.known.items)
