-- The parts of a test.
use Rattle.std.specs.Prelude.{ℕ, Bool, false, nat_eq, List, Option, is_none}
use Rattle.std.specs.List.{list_any}
use Rattle.std.specs.Option.{option_map_or}

-- whether there is no next byte
abbrev pub is_end : Option ℕ → Bool
is_end next = is_none next

-- whether there is a next byte and it is one of these
abbrev pub is_one_of : List ℕ → Option ℕ → Bool
is_one_of bytes next = option_map_or (λ b. list_any (nat_eq b) bytes) next false
