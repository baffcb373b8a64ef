-- What stands before a string while UNIQUE sorts.
use Rattle.std.specs.Prelude.{ℕ, nat_le, List, length, take, if◌then◌else◌}
use Rattle.std.specs.Int.{w64, from_be_bytes}

-- the first eight bytes as a number; 0 where there are fewer
abbrev pub first_eight : List ℕ → ℕ
first_eight bytes = if nat_le 8 (length bytes) then from_be_bytes w64 (take 8 bytes) else 0
