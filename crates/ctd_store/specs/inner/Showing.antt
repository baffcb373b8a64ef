-- What the entries of a store show.
use Rattle.std.specs.Prelude.{List, map}
use Rattle.std.proofs.Common.{Bor}
use Rattle.ctd_store.specs.declared.value.Value.{Value}

-- the values that a list of borrows lends
abbrev pub values_seen : List (Bor Value) → List Value
values_seen lent = map (λ v. v.now) lent
