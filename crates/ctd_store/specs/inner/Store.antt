-- What has been assigned and pinned, and what a variable stands for.
-- Used only by the proofs of this crate.
use Rattle.std.specs.Prelude.{ℕ, Bool, not, ◌&&◌, List, [], fold, slice_get, option_map, Option, if◌then◌else◌}
use Rattle.std.specs.List.{list_all}
use Rattle.std.specs.FinMap.{put, is_sorted}
use Rattle.ctd_program.specs.declared.preset.Preset.{Preset}
use Rattle.ctd_store.specs.declared.value.Value.{Value}
use Rattle.ctd_store.specs.Order.{values_cmp}
use Rattle.ctd_store.specs.Store.{Array, Variables, has_indices, with_pin}

-- one preset after the other, so that the last of a key counts
abbrev pub pins_of : List Preset → Variables
pins_of presets = fold with_pin [] presets

-- whether two arrays are in order and have no index list in common
abbrev pub are_apart : Array → Array → Bool
are_apart pins values = is_sorted values_cmp pins && is_sorted values_cmp values && list_all (λ e. not (has_indices pins e.0)) values

-- an array, with a value at an index list that is not pinned; at one that is it stays
abbrev pub with_unpinned : Array → List Value → Value → Array → Array
with_unpinned pins indices value values = if has_indices pins indices then values else put values_cmp indices value values

-- the name at a position
abbrev pub name_at : Variables → ℕ → Option (List ℕ)
name_at variables at = option_map (λ v. v.0) (slice_get variables at)
