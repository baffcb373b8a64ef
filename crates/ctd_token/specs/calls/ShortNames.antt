-- How names are kept: short ones in place, as eight bytes by which two of them are compared.
-- Used only by per-call contracts and laws.
use Rattle.std.specs.Prelude.{◌≡◌, ◌<◌, ◌≤◌, ℕ, ◌-◌, List, [], ◌∷◌, ◌++◌, length, replicate, nat_lt, if◌then◌else◌}
use Rattle.ctd_token.specs.declared.limits.TheConstants.{SHORT_NAME}
use Rattle.ctd_token.specs.declared.name.NameRest.{NameRest}
use Rattle.ctd_token.specs.declared.name.NameRest.TheVariants.{Short, Long}
use Rattle.ctd_token.specs.ShortNames.{bytes_of}

-- at most seven bytes
abbrev pub IsShort : List ℕ → Type 0
IsShort bytes = length bytes ≤ SHORT_NAME

-- the eight bytes of a short name: its bytes, zeros behind them, and how many they are
abbrev pub pack : List ℕ → List ℕ
pack bytes = bytes ++ replicate (SHORT_NAME - length bytes) 0 ++ length bytes ∷ []

-- a short name stands in its eight bytes, and a long one in its box; no short one has the eight bytes of a long one
abbrev pub IsKept : List ℕ → NameRest → Type 0
IsKept packed (Short number) = IsShort (bytes_of packed (Short number)) × (packed ≡ pack (bytes_of packed (Short number)))
IsKept packed (Long number boxed) = (SHORT_NAME < length boxed.value) × (packed ≡ replicate 8 255)

-- the eight bytes by which names are compared: those of a short one, and of a long one others, which no name has
abbrev pub key_bytes : List ℕ → List ℕ
key_bytes bytes = if nat_lt SHORT_NAME (length bytes) then replicate 8 254 else pack bytes
