-- What does not speak of a name without indices.
use Rattle.std.specs.Prelude.{◌≡◌, ◌≢◌, ℕ, List, Option, Some, None}
use Rattle.std.specs.Borrow.{Bor}
use Rattle.ctd_states.specs.calls.States.{name_at}
use Rattle.ctd_elements.specs.declared.fact.Term.{Term}
use Rattle.ctd_elements.specs.declared.fact.Bound.{Bound}
use Rattle.ctd_elements.specs.declared.fact.Index.{Index}
use Rattle.ctd_elements.specs.declared.fact.Index.TheVariants as indices
use Rattle.ctd_elements.specs.declared.fact.Side.{Side}
use Rattle.ctd_elements.specs.declared.fact.Side.TheVariants as sides
use Rattle.ctd_elements.specs.declared.fact.Block.{Block}

-- a name does not stand in a bound
abbrev pub BoundIsFree : List (Bor (List ℕ)) → List ℕ → Bound → Type 0
BoundIsFree names name b = (t : Term) → b.term ≡ Some t → name_at names t.name ≢ name

-- nor in an index
abbrev pub IndexIsFree : List (Bor (List ℕ)) → List ℕ → Index → Type 0
IndexIsFree names name (indices.Number b) = BoundIsFree names name b
IndexIsFree names name (indices.Value i) = name_at names i ≢ name
IndexIsFree names name (indices.Text i) = Unit {0}

-- nor in a side of a block
abbrev pub SideIsFree : List (Bor (List ℕ)) → List ℕ → Side → Type 0
SideIsFree names name (sides.Between s) = BoundIsFree names name s.low × BoundIsFree names name s.high
SideIsFree names name (sides.At index) = IndexIsFree names name index

-- nor in its second side, if there is one
abbrev pub SecondIsFree : List (Bor (List ℕ)) → List ℕ → Option Side → Type 0
SecondIsFree names name None = Unit {0}
SecondIsFree names name (Some side) = SideIsFree names name side

-- nor in a block
abbrev pub BlockIsFree : List (Bor (List ℕ)) → List ℕ → Block → Type 0
BlockIsFree names name b = SideIsFree names name b.first × SecondIsFree names name b.second

-- nor in an exception, if there is one
abbrev pub ExceptionIsFree : List (Bor (List ℕ)) → List ℕ → Option Block → Type 0
ExceptionIsFree names name None = Unit {0}
ExceptionIsFree names name (Some b) = BlockIsFree names name b

-- nor in a greatest value, if there is one
abbrev pub MostIsFree : List (Bor (List ℕ)) → List ℕ → Option Bound → Type 0
MostIsFree names name None = Unit {0}
MostIsFree names name (Some b) = BoundIsFree names name b
