-- Abstract states with facts: what they say of variables.
use Rattle.std.specs.Prelude.{ℕ, List}
use Rattle.ctd_store.specs.Store.{Bindings}
use Rattle.ctd_states.specs.calls.States.{EachStands, NamedValue, named_values}
use Rattle.ctd_elements.specs.declared.fact.Bound.{Bound}
use Rattle.ctd_elements.specs.declared.fact.Fact.{Fact}
use Rattle.ctd_elements.specs.declared.fact.AbstractState.{AbstractState}
use Rattle.ctd_elements.specs.calls.Bounds.{IsOrdered}
use Rattle.ctd_elements.specs.calls.Blocks.{AllStand, Stands}

-- the names of a state with their abstract values
abbrev pub values_of : AbstractState → List NamedValue
values_of s = named_values s.names.now s.entries.now

-- a state describes some variables, where so many steps are left
pub record Describes (s : AbstractState) (n : ℕ) (h : Bindings) : Type 0 where
  pub values : EachStands (values_of s) n h
  pub facts : AllStand s.names.now h s.facts.now

-- by a state, one bound is at most another
abbrev pub Orders : AbstractState → Bound → Bound → Type 0
Orders s a b = (n : ℕ) (h : Bindings) → Describes s n h → IsOrdered s.names.now h a b

-- by a state, a fact is so
abbrev pub Implies : AbstractState → Fact → Type 0
Implies s f = (n : ℕ) (h : Bindings) → Describes s n h → Stands s.names.now h f
