-- What an operation may give.
use Rattle.std.specs.Prelude.{ℕ, ℤ, Result, Ok, Err}
use Rattle.ctd_transfer.specs.Prelude.{Fault, Faults, IsAmong, MayBe, PossibleResult, Value, number}
use Rattle.ctd_value.specs.Fault.{◌>>=◌}

-- a value or a fault is among the possible ones, where so many steps are left
abbrev pub IsPossible : PossibleResult → ℕ → Result Value Fault → Type 0
IsPossible f k (Ok v) = MayBe f.values k v
IsPossible f k (Err fault) = IsAmong f.faults fault

-- a fault is among these, if there is one
abbrev pub FailsBy : {A : Type 0} → Faults → Result A Fault → Type 0
FailsBy f (Ok x) = Unit {0}
FailsBy f (Err fault) = IsAmong f fault

-- a value that has to be a number
abbrev pub as_number : Result Value Fault → Result ℤ Fault
as_number r = do
  v ← r
  number v
