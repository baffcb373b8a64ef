-- Which values of an array are read.
use Rattle.std.specs.Prelude.{◌≡◌, ℕ, ◌+◌, not, List, [], filter, Option, Some, None}
use Rattle.std.specs.FinMap.{find}
use Rattle.ctd_store.specs.declared.value.Value.{Value}
use Rattle.ctd_store.specs.Order.{values_cmp}
use Rattle.ctd_store.specs.Store.{Array, has_indices}
use Rattle.ctd_store.specs.calls.Store.{slot}

-- two arrays have the same value at each index list
abbrev pub ReadsAs : Array → Array → Type 0
ReadsAs a b = (q : List Value) → find values_cmp q a ≡ find values_cmp q b

-- the entries of an array at whose index lists another has no value
abbrev pub visible_entries : Array → Array → Array
visible_entries others array = filter (λ e. not (has_indices others e.0)) array

-- the index list of the number at a place from a base on, if there is one
abbrev pub front_list : Option (ℕ × ℕ) → List Value
front_list None = []
front_list (Some p) = slot (p.0 + p.1)
