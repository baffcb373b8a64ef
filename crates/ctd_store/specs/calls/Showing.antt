-- What the entries of a store show.
use Rattle.std.specs.Prelude.{List}
use Rattle.ctd_store.specs.declared.store.EntryRef.{EntryRef}
use Rattle.ctd_store.specs.declared.value.Value.{Value}
use Rattle.ctd_store.specs.calls.Index.{indices_of}

-- the indices and the value of an entry that is lent
abbrev pub entry : EntryRef → List Value × Value
entry e = (indices_of e.indices, e.value.now)
