-- Bounds of the number of a bound.
use Rattle.std.specs.Prelude.{ℕ, List, ℤ}
use Rattle.ctd_store.specs.declared.value.Value.TheVariants as values
use Rattle.ctd_store.specs.Store.{Bindings}
use Rattle.ctd_elements.specs.declared.fact.Bound.{Bound}
use Rattle.ctd_elements.specs.declared.fact.Fact.{Fact}
use Rattle.ctd_elements.specs.declared.fact.AbstractState.{AbstractState}
use Rattle.ctd_elements.specs.calls.Bounds.{IsBound}
use Rattle.ctd_elements.specs.calls.Blocks.{Stands}
use Rattle.ctd_elements.specs.calls.States.{Describes}
use Rattle.ctd_elements.specs.calls.Limits.{IsAtLeast, IsAtLeastAll, IsAtMost, IsAtMostAll}

-- by one fact, a bound has a number, which is at least that of another, or at most
abbrev pub IsAboveBy : AbstractState → Fact → Bound → Bound → Type 0
IsAboveBy s fact b c = (n : ℕ) (h : Bindings) (x : ℤ) → Describes s n h → Stands s.names.now h fact → IsBound s.names.now h b x → IsAtMost s.names.now h c (values.Int x)

-- by a fact, the number of a bound is at least another
abbrev pub IsBelowBy : AbstractState → Fact → Bound → Bound → Type 0
IsBelowBy s fact b c = (n : ℕ) (h : Bindings) (x : ℤ) → Describes s n h → Stands s.names.now h fact → IsBound s.names.now h b x → IsAtLeast s.names.now h c (values.Int x)

-- bounds of the number of a bound
abbrev pub HighsOf : AbstractState → Bound → List Bound → Type 0
HighsOf s b all = (n : ℕ) (h : Bindings) (x : ℤ) → Describes s n h → IsBound s.names.now h b x → IsAtMostAll s.names.now h all (values.Int x)

-- bounds that the number of a bound is at least
abbrev pub LowsOf : AbstractState → Bound → List Bound → Type 0
LowsOf s b all = (n : ℕ) (h : Bindings) (x : ℤ) → Describes s n h → IsBound s.names.now h b x → IsAtLeastAll s.names.now h all (values.Int x)
