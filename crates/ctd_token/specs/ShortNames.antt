-- How names are kept: short ones in place, as eight bytes by which two of them are compared.
use Rattle.std.specs.Prelude.{ℕ, List, take, slice_index}
use Rattle.ctd_token.specs.declared.limits.TheConstants.{SHORT_NAME}
use Rattle.ctd_token.specs.declared.name.NameRest.{NameRest}
use Rattle.ctd_token.specs.declared.name.NameRest.TheVariants.{Short, Long}

-- the bytes of a name, wherever they stand
abbrev pub bytes_of : List ℕ → NameRest → List ℕ
bytes_of packed (Short number) = take (slice_index packed SHORT_NAME) packed
bytes_of packed (Long number boxed) = boxed.value
