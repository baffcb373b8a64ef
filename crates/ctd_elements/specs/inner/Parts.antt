-- Which blocks are parts of others.
use Rattle.std.specs.Prelude.{ℕ, List, Option}
use Rattle.ctd_store.specs.declared.value.Value.{Value}
use Rattle.ctd_store.specs.Store.{Bindings}
use Rattle.ctd_elements.specs.declared.fact.Bound.{Bound}
use Rattle.ctd_elements.specs.declared.fact.Block.{Block}
use Rattle.ctd_elements.specs.declared.fact.Side.{Side}
use Rattle.ctd_elements.specs.declared.fact.AbstractState.{AbstractState}
use Rattle.ctd_elements.specs.calls.Blocks.{AreIn, AreOn, IsOn, IsUpTo, more_sides}
use Rattle.ctd_elements.specs.calls.States.{Describes}

-- what is on one second side is on another
abbrev pub IsSecondPart : AbstractState → Option Side → Option Side → Type 0
IsSecondPart s a b = (n : ℕ) (h : Bindings) (is : List Value) → Describes s n h → AreOn s.names.now h (more_sides a) is → AreOn s.names.now h (more_sides b) is

-- what is in one block is in another
abbrev pub IsInside : AbstractState → Block → Block → Type 0
IsInside s a b = (n : ℕ) (h : Bindings) (is : List Value) → Describes s n h → AreIn s.names.now h a is → AreIn s.names.now h b is

-- nothing is on a side, or in a block
abbrev pub IsEmpty : AbstractState → Side → Type 0
IsEmpty s a = (n : ℕ) (h : Bindings) (v : Value) → Describes s n h → IsOn s.names.now h a v → ⊥

-- nothing is in a block
abbrev pub IsEmptyBlock : AbstractState → Block → Type 0
IsEmptyBlock s b = (n : ℕ) (h : Bindings) (is : List Value) → Describes s n h → AreIn s.names.now h b is → ⊥

-- what is at most one bound, if there is one, is at most another, if there is one
abbrev pub IsTighter : AbstractState → Option Bound → Option Bound → Type 0
IsTighter s own wanted = (n : ℕ) (h : Bindings) (v : Value) → Describes s n h → IsUpTo s.names.now h own v → IsUpTo s.names.now h wanted v
