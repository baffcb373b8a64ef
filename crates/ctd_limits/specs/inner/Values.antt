-- What is known of names.
use Rattle.std.specs.Prelude.{◌≡◌, ℕ, List, Some, ℤ}
use Rattle.std.specs.Borrow.{Bor}
use Rattle.ctd_store.specs.declared.value.Value.{Value}
use Rattle.ctd_store.specs.declared.value.Value.TheVariants as values
use Rattle.ctd_store.specs.Store.{Bindings}
use Rattle.ctd_elements.specs.declared.fact.Bound.{Bound}
use Rattle.ctd_elements.specs.declared.fact.AbstractState.{AbstractState}
use Rattle.ctd_elements.specs.calls.Bounds.{IsBound, alone}
use Rattle.ctd_elements.specs.calls.States.{Describes}
use Rattle.ctd_limits.specs.declared.known.ValueLimits.{ValueLimits}
use Rattle.ctd_limits.specs.calls.Known.{IsKnown}

-- of the number of a bound
abbrev pub KnowsBound : AbstractState → Bound → ValueLimits → Type 0
KnowsBound s b l = (n : ℕ) (h : Bindings) (x : ℤ) → Describes s n h → IsBound s.names.now h b x → IsKnown s.names.now h l (values.Int x)

-- of the value of a name, by its index, whatever is known of it, and by itself
abbrev pub KnowsIndex : ℕ → ValueLimits → Type 0
KnowsIndex i l = (names : List (Bor (List ℕ))) (h : Bindings) (v : Value) → alone names h i ≡ Some v → IsKnown names h l v

-- by a state, what is known of the value of a name without indices
abbrev pub KnowsValue : AbstractState → ℕ → ValueLimits → Type 0
KnowsValue s i l = (n : ℕ) (h : Bindings) (v : Value) → Describes s n h → alone s.names.now h i ≡ Some v → IsKnown s.names.now h l v
