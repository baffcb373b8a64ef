-- What was so before a name without indices got a value.
use Rattle.std.specs.Prelude.{ℕ, List, [], Option, ℤ}
use Rattle.std.specs.Borrow.{Bor}
use Rattle.ctd_store.specs.declared.value.Value.{Value}
use Rattle.ctd_store.specs.declared.value.Value.TheVariants as values
use Rattle.ctd_store.specs.Store.{Bindings, assign}
use Rattle.ctd_states.specs.calls.States.{at_key}
use Rattle.ctd_elements.specs.declared.fact.Bound.{Bound}
use Rattle.ctd_elements.specs.declared.fact.Index.{Index}
use Rattle.ctd_elements.specs.declared.fact.Side.{Side}
use Rattle.ctd_elements.specs.declared.fact.Block.{Block}
use Rattle.ctd_elements.specs.declared.fact.Fact.{Fact}
use Rattle.ctd_elements.specs.calls.Bounds.{IsAt, IsBound}
use Rattle.ctd_elements.specs.calls.Blocks.{AreIn, AreOn, IsOn, IsUpTo, Stands, more_sides}
use Rattle.ctd_element_changes.specs.inner.Assigning.{GetsIndex}

-- the number of an index
abbrev pub IsNumberIn : Index → Bound → Type 0
IsNumberIn index b = (names : List (Bor (List ℕ))) (h : Bindings) (k : ℤ) → IsAt names h index (values.Int k) → IsBound names h b k

-- what has a number behind the assignment had the same by another bound, and so on
abbrev pub WasBound : List (Bor (List ℕ)) → List ℕ → Option Index → (new old : Bound) → Type 0
WasBound names name exact new old = (h : Bindings) (v : Value) (z : ℤ) → GetsIndex names h name exact v → IsBound names (assign h (at_key name []) v) new z → IsBound names h old z

-- what an index is behind the assignment another was before
abbrev pub WasIndex : List (Bor (List ℕ)) → List ℕ → Option Index → (new old : Index) → Type 0
WasIndex names name exact new old = (h : Bindings) (v w : Value) → GetsIndex names h name exact v → IsAt names (assign h (at_key name []) v) new w → IsAt names h old w

-- what is on a side behind it was on another before
abbrev pub WasSide : List (Bor (List ℕ)) → List ℕ → Option Index → (new old : Side) → Type 0
WasSide names name exact new old = (h : Bindings) (v w : Value) → GetsIndex names h name exact v → IsOn names (assign h (at_key name []) v) new w → IsOn names h old w

-- the same of second sides
abbrev pub WasSecond : List (Bor (List ℕ)) → List ℕ → Option Index → (new old : Option Side) → Type 0
WasSecond names name exact new old = (h : Bindings) (v : Value) (is : List Value) → GetsIndex names h name exact v → AreOn names (assign h (at_key name []) v) (more_sides new) is → AreOn names h (more_sides old) is

-- what is in a block behind it was in another before
abbrev pub WasBlock : List (Bor (List ℕ)) → List ℕ → Option Index → (new old : Block) → Type 0
WasBlock names name exact new old = (h : Bindings) (v : Value) (is : List Value) → GetsIndex names h name exact v → AreIn names (assign h (at_key name []) v) new is → AreIn names h old is

-- what is at most a bound before is at most another behind
abbrev pub WasMost : List (Bor (List ℕ)) → List ℕ → Option Index → (new old : Option Bound) → Type 0
WasMost names name exact new old = (h : Bindings) (v w : Value) → GetsIndex names h name exact v → IsUpTo names h old w → IsUpTo names (assign h (at_key name []) v) new w

-- where one fact is so before, another is behind
abbrev pub WasFact : List (Bor (List ℕ)) → List ℕ → Option Index → (new old : Fact) → Type 0
WasFact names name exact new old = (h : Bindings) (v : Value) → GetsIndex names h name exact v → Stands names h old → Stands names (assign h (at_key name []) v) new
