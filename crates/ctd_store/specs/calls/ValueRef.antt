-- The value that is lent.
use Rattle.ctd_store.specs.declared.value_ref.ValueRef.TheVariants as refs
use Rattle.ctd_store.specs.declared.value.Value.TheVariants as values
use Rattle.ctd_store.specs.declared.value_ref.ValueRef.{ValueRef}
use Rattle.ctd_store.specs.declared.value.Value.{Value}

-- the value that is lent
abbrev pub value_of_ref : ValueRef → Value
value_of_ref (refs.Int n) = values.Int n
value_of_ref (refs.Text bytes) = values.Text bytes.now
