-- The value of a variable.
use Rattle.std.specs.Prelude.{Option, Result}
use Rattle.std.specs.Option.{ok_or}
use Rattle.ctd_store.specs.declared.value.Value.{Value}
use Rattle.ctd_outcome.specs.declared.reason.Fault.{Fault}
use Rattle.ctd_outcome.specs.declared.reason.Fault.TheVariants.{Undefined}

-- a variable has to have a value
abbrev pub value_or_undefined : Option Value → Result Value Fault
value_or_undefined found = ok_or found Undefined
