-- What an operation on strings may give.
use Rattle.std.specs.Prelude.{ℕ, List, Result}
use Rattle.ctd_transfer.specs.Prelude.{Fault, Value, text}
use Rattle.ctd_value.specs.Fault.{◌>>=◌}

-- a value that has to be a string
abbrev pub as_text : Result Value Fault → Result (List ℕ) Fault
as_text r = do
  v ← r
  text v
