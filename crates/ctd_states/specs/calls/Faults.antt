-- Which faults of a value there may be.
use Rattle.std.specs.Prelude.{◌≡◌, ◌⊎◌, true}
use Rattle.ctd_outcome.specs.declared.reason.Fault.{Fault}
use Rattle.ctd_outcome.specs.declared.reason.Fault.TheVariants as faults
use Rattle.ctd_states.specs.declared.faults.Faults.{Faults}
use Rattle.ctd_states.specs.declared.faults.TrapKind.{TrapKind}
use Rattle.ctd_states.specs.declared.faults.TrapKind.TheVariants as kinds

-- a fault of a value is among these; nothing is said of others
abbrev pub IsAmong : Faults → Fault → Type 0
IsAmong f faults.Undefined = (f.no_value ≡ true) ⊎ (f.no_element ≡ true)
IsAmong f faults.WrongType = f.wrong_type ≡ true
IsAmong f faults.Overflow = f.overflow ≡ true
IsAmong f faults.DivisionByZero = f.division_by_zero ≡ true
IsAmong f faults.Exponent = f.exponent ≡ true
IsAmong f faults.Count = f.count ≡ true
IsAmong f faults.Shape = f.shape ≡ true
IsAmong f other = Unit {0}

-- a fault of a kind is among these
abbrev pub IsOfKind : Faults → TrapKind → Type 0
IsOfKind f kinds.NoValue = f.no_value ≡ true
IsOfKind f kinds.NoElement = f.no_element ≡ true
IsOfKind f kinds.WrongType = f.wrong_type ≡ true
IsOfKind f kinds.Overflow = f.overflow ≡ true
IsOfKind f kinds.DivisionByZero = f.division_by_zero ≡ true
IsOfKind f kinds.BadExponent = f.exponent ≡ true
IsOfKind f kinds.BadCount = f.count ≡ true
IsOfKind f kinds.OtherShape = f.shape ≡ true
