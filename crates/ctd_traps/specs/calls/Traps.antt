-- Where a run may stop for want of a value: the theorem.
use Rattle.std.specs.Prelude.{◌≡◌, ◌<◌, ◌^◌, ℕ, List, map, Contains}
use Rattle.ctd_traps.specs.Prelude.{At, CommandList, Fault, Mode, Place, Preset, Site, Spot, Stopped, TestData, Trap, TrapKind, meaning}
use Rattle.ctd_outcome.specs.declared.reason.Fault.TheVariants as faults
use Rattle.ctd_states.specs.declared.faults.TrapKind.TheVariants as kinds

-- a fault of a value, and none of a look, of a match or of the limit of steps
abbrev pub IsOfValue : Fault → Type 0
IsOfValue faults.StepLimit = ⊥
IsOfValue faults.MatchTooLong = ⊥
IsOfValue faults.DataTooLong = ⊥
IsOfValue faults.Read = ⊥
IsOfValue fault = Unit {0}

-- a command, or a turn of a loop, may stop the run by this fault of a value
pub record PlacedFault : Type 0 where
  pub place : Place
  pub fault : Fault

-- Whatever the data, the mode and the limit of steps: a run that stops by a fault of a value stops at a trap that is listed.
abbrev pub HasEachTrap : CommandList → List Preset → List PlacedFault → Type 0
HasEachTrap program presets traps = (mode : Mode) (d : TestData) (steps : ℕ) (spot : Spot) (site : Site) (fault : Fault) → steps < 2 ^ 64 → IsOfValue fault →
    (meaning mode program presets d steps).outcome ≡ Stopped spot site fault →
    (place : Place) × (site ≡ At place) × Contains traps (record { place = place; fault = fault })

-- the fault by which a run stops at a trap of a kind
abbrev pub fault_of_kind : TrapKind → Fault
fault_of_kind kinds.NoValue = faults.Undefined
fault_of_kind kinds.NoElement = faults.Undefined
fault_of_kind kinds.WrongType = faults.WrongType
fault_of_kind kinds.Overflow = faults.Overflow
fault_of_kind kinds.DivisionByZero = faults.DivisionByZero
fault_of_kind kinds.BadExponent = faults.Exponent
fault_of_kind kinds.BadCount = faults.Count
fault_of_kind kinds.OtherShape = faults.Shape

-- the fault of a trap, at its place
abbrev pub fault_of : Trap → PlacedFault
fault_of f = record { place = f.place; fault = fault_of_kind f.kind }

-- the faults of some traps, at their places
abbrev pub faults_of : List Trap → List PlacedFault
faults_of traps = map fault_of traps
