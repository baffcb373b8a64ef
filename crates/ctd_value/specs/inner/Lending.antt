-- What a call lends or makes, and what is meant.
use Rattle.std.specs.Prelude.{Result}
use Rattle.ctd_store.specs.declared.value_ref.ValueRef.{ValueRef}
use Rattle.ctd_store.specs.declared.value.Value.{Value}
use Rattle.ctd_store.specs.calls.ValueRef.{value_of_ref}
use Rattle.ctd_value.specs.declared.fault.EvalFault.{EvalFault}
use Rattle.ctd_outcome.specs.declared.reason.Fault.{Fault}
use Rattle.ctd_value.specs.calls.Fault.{Gives}
use Rattle.ctd_value.specs.calls.Lending.{map_ok}

-- what a call lends is what is meant, unless memory ran out
abbrev pub Lends : Result ValueRef EvalFault → Result Value Fault → Type 0
Lends result meant = Gives (map_ok value_of_ref result) meant
