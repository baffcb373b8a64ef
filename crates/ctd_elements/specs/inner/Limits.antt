-- What is known of a value, beside bounds.
use Rattle.std.specs.Prelude.{ℕ, List, ℤ, ◌<ℤ◌}
use Rattle.std.specs.Borrow.{Bor}
use Rattle.ctd_store.specs.declared.value.Value.{Value}
use Rattle.ctd_store.specs.declared.value.Value.TheVariants as values
use Rattle.ctd_store.specs.Store.{Bindings}
use Rattle.ctd_elements.specs.declared.fact.Bound.{Bound}
use Rattle.ctd_elements.specs.declared.fact.AbstractState.{AbstractState}
use Rattle.ctd_elements.specs.declared.limits.Limits.{Limits}
use Rattle.ctd_elements.specs.calls.Bounds.{IsBound}
use Rattle.ctd_elements.specs.calls.States.{Describes}
use Rattle.ctd_elements.specs.calls.Limits.{IsAtLeast, IsLimited}

-- by what is known of it, a value is at least a bound, which has a number, or below one
abbrev pub IsSureFrom : AbstractState → Limits → Bound → Type 0
IsSureFrom s limits b = (n : ℕ) (h : Bindings) (v : Value) → Describes s n h → IsLimited s.names.now h limits v → IsAtLeast s.names.now h b v

-- a value is a number, and a bound has a greater one
abbrev pub IsBelow : List (Bor (List ℕ)) → Bindings → Bound → Value → Type 0
IsBelow names h b (values.Int x) = (z : ℤ) × IsBound names h b z × (x <ℤ z)
IsBelow names h b (values.Text bytes) = ⊥

-- by what is known of it, a value is below a bound
abbrev pub IsLimitedBelow : AbstractState → Limits → Bound → Type 0
IsLimitedBelow s limits b = (n : ℕ) (h : Bindings) (v : Value) → Describes s n h → IsLimited s.names.now h limits v → IsBelow s.names.now h b v

-- by what is known of it, a number is that of a bound
abbrev pub IsLimitedAs : AbstractState → Limits → Bound → Type 0
IsLimitedAs s limits b = (n : ℕ) (h : Bindings) (x : ℤ) → Describes s n h → IsLimited s.names.now h limits (values.Int x) → IsBound s.names.now h b x

-- where one bound has a number, another has a greater one
abbrev pub IsAbove : AbstractState → Bound → Bound → Type 0
IsAbove s b a = (n : ℕ) (h : Bindings) (x : ℤ) → Describes s n h → IsBound s.names.now h a x → (y : ℤ) × IsBound s.names.now h b y × (x <ℤ y)
