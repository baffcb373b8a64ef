-- The state where tests are true.
use Rattle.std.specs.Prelude.{◌≡◌, ℕ, ℤ, true, Ok}
use Rattle.ctd_program.specs.declared.tree.Compare.{Compare}
use Rattle.ctd_range.specs.calls.Ranges.{Relates}
use Rattle.ctd_store.specs.Store.{Bindings, values_of}
use Rattle.ctd_store.specs.declared.value.Value.{Value}
use Rattle.ctd_store.specs.declared.value.Value.TheVariants as values
use Rattle.ctd_states.specs.declared.assign.Context.{Context}
use Rattle.ctd_value.specs.Truth.{value_in_array}
use Rattle.ctd_states.specs.calls.States.{name_at}
use Rattle.ctd_elements.specs.declared.limits.Limits.{Limits}
use Rattle.ctd_elements.specs.calls.Limits.{IsLimited}
use Rattle.ctd_partitions.specs.declared.state.State.{State}
use Rattle.ctd_partitions.specs.calls.States.{StateStands}

-- where two numbers compare so
abbrev pub ComparesState : Context → State → Compare → Limits → Limits → State → Type 0
ComparesState g st by a b after = (n : ℕ) (h : Bindings) (x y : ℤ) → StateStands g st n h → IsLimited g.names.now h a (values.Int x) → IsLimited g.names.now h b (values.Int y) → Relates by x y → StateStands g after n h

-- where a value is one of an array
abbrev pub HitsState : Context → State → Limits → ℕ → State → Type 0
HitsState g st limits array after = (n : ℕ) (h : Bindings) (v : Value) → StateStands g st n h → IsLimited g.names.now h limits v → value_in_array (Ok v) (values_of h (name_at g.names.now array)) ≡ Ok true → StateStands g after n h
