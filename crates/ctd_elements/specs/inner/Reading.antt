-- Which elements surely have values, step by step.
use Rattle.std.specs.Prelude.{ℕ, List, Option}
use Rattle.ctd_store.specs.declared.value.Value.{Value}
use Rattle.ctd_store.specs.Store.{Bindings}
use Rattle.ctd_elements.specs.declared.fact.Fact.{Fact}
use Rattle.ctd_elements.specs.declared.fact.Side.{Side}
use Rattle.ctd_elements.specs.declared.fact.AbstractState.{AbstractState}
use Rattle.ctd_elements.specs.declared.limits.Limits.{Limits}
use Rattle.ctd_elements.specs.calls.Blocks.{Has, IsOn, Stands}
use Rattle.ctd_elements.specs.calls.States.{Describes}
use Rattle.ctd_elements.specs.calls.Limits.{IsLimited}
use Rattle.ctd_elements.specs.calls.Reading.{AreLimited}

-- by what is known of it, an index is on a side
abbrev pub IsLimitedOn : AbstractState → Limits → Side → Type 0
IsLimitedOn s limits side = (n : ℕ) (h : Bindings) (v : Value) → Describes s n h → IsLimited s.names.now h limits v → IsOn s.names.now h side v

-- by one fact more, an array has a value at such indices
abbrev pub HasElementBy : AbstractState → Fact → ℕ → Limits → Option Limits → Type 0
HasElementBy s fact array first second = (n : ℕ) (h : Bindings) (is : List Value) → Describes s n h → Stands s.names.now h fact → AreLimited s.names.now h first second is → Has s.names.now h array is
