-- The index lists that an index and an entry's indices stand for.
use Rattle.ctd_store.specs.declared.index.Index.TheVariants as index
use Rattle.ctd_store.specs.declared.index.Indices.TheVariants as lists
use Rattle.std.specs.Prelude.{List, []}
use Rattle.ctd_store.specs.declared.index.Index.{Index}
use Rattle.ctd_store.specs.declared.index.Indices.{Indices}
use Rattle.ctd_store.specs.declared.value.Value.{Value}
use Rattle.ctd_store.specs.calls.Store.{slot, cell}

-- the index list that an index is
abbrev pub indices_at : Index → List Value
indices_at index.Scalar = []
indices_at (index.One n) = slot n
indices_at (index.Two m n) = cell m n
indices_at (index.List indices) = indices.now

-- the index list of an entry
abbrev pub indices_of : Indices → List Value
indices_of (lists.One index) = index
indices_of (lists.Two indices) = indices
indices_of (lists.List indices) = indices.now
