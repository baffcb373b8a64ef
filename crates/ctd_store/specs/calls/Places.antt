-- Where the values of an array stand.
use Rattle.std.specs.Prelude.{ℕ, suc, List, [], ◌∷◌, ◌++◌, map, Option, Some, None}
use Rattle.std.specs.declared.vec.Vec.{Vec}
use Rattle.ctd_store.specs.declared.grid.Grid.{Grid}
use Rattle.ctd_store.specs.declared.line.Line.{Line}
use Rattle.ctd_store.specs.declared.places.Places.{Places}
use Rattle.ctd_store.specs.declared.value.Value.{Value}
use Rattle.ctd_store.specs.Store.{Array}
use Rattle.ctd_store.specs.calls.Store.{slot, numbered}

-- the value without indices, if there is one
abbrev pub scalar_entry : Option Value → Array
scalar_entry None = []
scalar_entry (Some x) = ([], x) ∷ []

-- the values of a line, whose index lists all begin alike
abbrev pub along : List Value → Line → Array
along front line = numbered front line.base line.values.items

-- the values of rows, the first of which has this number and each other the next
abbrev pub grid : ℕ → List Line → Array
grid row [] = []
grid row (r ∷ rs) = along (slot row) r ++ grid (suc row) rs

-- the values of a grid
abbrev pub cells : Grid → Array
cells g = grid g.base g.rows.items

-- the values that have a place
abbrev pub place_entries : Places → Array
place_entries p = scalar_entry p.scalar ++ (along [] p.row ++ cells p.grid)

-- the entries of a map
abbrev pub listed : {A : Type 0} → List (Vec Value A × Value) → Array
listed entries = map (λ e. (e.0.items, e.1)) entries
