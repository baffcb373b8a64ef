-- What has been assigned and pinned, and what a variable stands for.
-- Used only by per-call contracts and laws.
use Rattle.ctd_store.specs.declared.value.Value.TheVariants as values
use Rattle.std.specs.Prelude.{ℕ, suc, pos, nat_eq, true, false, Bool, ◌&&◌, List, [], ◌∷◌, ◌++◌, map, Option, Some, None}
use Rattle.std.specs.FinMap.{find, put}
use Rattle.std.specs.declared.cmp.Ordering.{Ordering}
use Rattle.std.specs.Ordering.{ordering_then}
use Rattle.ctd_store.specs.declared.value.Value.{Value}
use Rattle.ctd_store.specs.Order.{bytes_cmp, values_cmp}
use Rattle.ctd_store.specs.Store.{Key, Array, Variables}

-- keys by their names and then by their indices, index by index
abbrev pub key_cmp : Key → Key → Ordering
key_cmp a b = ordering_then (bytes_cmp a.name b.name) (values_cmp a.indices b.indices)

-- the index list that is one number
abbrev pub slot : ℕ → List Value
slot n = values.Int (pos n) ∷ []

-- the index list that is two numbers
abbrev pub cell : ℕ → ℕ → List Value
cell m n = values.Int (pos m) ∷ values.Int (pos n) ∷ []

-- values at the numbers from n on, behind the same indices
abbrev pub numbered : List Value → ℕ → List Value → Array
numbered front n [] = []
numbered front n (x ∷ xs) = (front ++ slot n, x) ∷ numbered front (suc n) xs

-- index lists with values, put in the order of the index lists; where one comes twice, its first value counts
abbrev pub by_indices : Array → Array
by_indices [] = []
by_indices (e ∷ es) = put values_cmp e.0 e.1 (by_indices es)

-- the variables, with the array of a name laid over them, if it has entries
abbrev pub with_array : List ℕ → Array → Variables → Variables
with_array name [] variables = variables
with_array name (e ∷ es) variables = put bytes_cmp name (e ∷ es) variables

-- names with their arrays, put in the order of the names, without those that have no entries
abbrev pub in_order : Variables → Variables
in_order [] = []
in_order (v ∷ vs) = with_array v.0 v.1 (in_order vs)

-- names with their positions, in the order of the names
abbrev pub Positions : Type 0
Positions = List (List ℕ × ℕ)

-- whether a position is there and is this one
abbrev pub is_position : ℕ → Option ℕ → Bool
is_position at None = false
is_position at (Some position) = nat_eq position at

-- whether each name has its position, counted from a number on
abbrev pub have_positions : ℕ → Variables → Positions → Bool
have_positions from [] positions = true
have_positions from (v ∷ vs) positions = is_position from (find bytes_cmp v.0 positions) && have_positions (suc from) vs positions

-- the index lists of an array
abbrev pub index_lists : Array → List (List Value)
index_lists array = map (λ e. e.0) array
