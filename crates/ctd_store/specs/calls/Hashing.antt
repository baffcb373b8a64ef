-- What a value feeds a hasher.
use Rattle.ctd_store.specs.declared.value.Value.TheVariants as values
use Rattle.std.specs.Prelude.{ℕ, List, [], ◌∷◌}
use Rattle.std.specs.Hash as fed
use Rattle.ctd_store.specs.declared.value.Value.{Value}

-- the writes for a value: the bytes of a number, or those of a string
abbrev pub hash_writes : Value → List (List ℕ)
hash_writes (values.Int n) = fed.i128 n
hash_writes (values.Text bytes) = bytes ∷ []
