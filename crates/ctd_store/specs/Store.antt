-- What has been assigned and pinned, and what a variable stands for.
use Rattle.ctd_program.specs.declared.preset.PresetValue.TheVariants as literals
use Rattle.ctd_store.specs.declared.value.Value.TheVariants as values
use Rattle.std.specs.Prelude.{ℕ, Bool, not, List, [], ◌∷◌, ◌++◌, filter, fold, map, is_some, Option, if◌then◌else◌}
use Rattle.std.specs.Option.{option_or, unwrap_or}
use Rattle.std.specs.FinMap.{find, put}
use Rattle.ctd_program.specs.declared.preset.PresetValue.{PresetValue}
use Rattle.ctd_program.specs.declared.preset.Preset.{Preset}
use Rattle.ctd_store.specs.declared.value.Value.{Value}
use Rattle.ctd_store.specs.Order.{bytes_cmp, values_cmp, same_bytes, same_values}

-- a variable: a name, and the values of its indices
pub record Key : Type 0 where
  pub name : List ℕ
  pub indices : List Value

-- index lists with their values, in the order of the index lists; where one came twice, its first entry would count
abbrev pub Array : Type 0
Array = List (List Value × Value)

-- names with their arrays, in the order of the names; where one came twice, its first array would count
abbrev pub Variables : Type 0
Variables = List (List ℕ × Array)

-- the array of a name, with no entries where the name has none
abbrev pub array_of : List ℕ → Variables → Array
array_of name variables = unwrap_or (find bytes_cmp name variables) []

-- the value at a key
abbrev pub value_under : Key → Variables → Option Value
value_under key variables = find values_cmp key.indices (array_of key.name variables)

-- the same variables, with a value at a key
abbrev pub with_value : Key → Value → Variables → Variables
with_value key value variables = put bytes_cmp key.name (put values_cmp key.indices value (array_of key.name variables)) variables

-- what is pinned and what is assigned
pub record Bindings : Type 0 where
  pub pins : Variables
  pub assigned : Variables

-- the value that a literal is
abbrev pub value_of : PresetValue → Value
value_of (literals.Int n) = values.Int n
value_of (literals.Text bytes) = values.Text bytes

-- the key that a preset pins
abbrev pub pinned_key : Preset → Key
pinned_key p = record { name = p.name; indices = map value_of p.indices }

-- the same variables, with a preset pinned
abbrev pub with_pin : Variables → Preset → Variables
with_pin pins p = with_value (pinned_key p) (value_of p.value) pins

-- the presets pinned, one after the other, so that the last of a key counts, and nothing assigned
abbrev pub initial : List Preset → Bindings
initial presets = record { pins = fold with_pin [] presets; assigned = [] }

-- whether a preset pins the key
abbrev pub is_pinned : Bindings → Key → Bool
is_pinned h key = is_some (value_under key h.pins)

-- the pin of a key, or else what was assigned to it
abbrev pub value_at : Bindings → Key → Option Value
value_at h key = option_or (value_under key h.pins) (value_under key h.assigned)

-- a pinned key stays as it is, and any other gets the value
abbrev pub assign : Bindings → Key → Value → Bindings
assign h key value = if is_pinned h key then h else record { pins = h.pins; assigned = with_value key value h.assigned }

-- the name is gone from what was assigned, with all its index lists; pins stay
abbrev pub unset : Bindings → List ℕ → Bindings
unset h name = record { pins = h.pins; assigned = filter (λ e. not (same_bytes name e.0)) h.assigned }

-- whether an array has a value at an index list
abbrev pub has_indices : Array → List Value → Bool
has_indices array indices = is_some (find values_cmp indices array)

-- the entries at other index lists
abbrev pub without : List Value → Array → Array
without indices array = filter (λ e. not (same_values indices e.0)) array

-- each index list once, with the value of its first entry
abbrev pub first_of_each : Array → Array
first_of_each [] = []
first_of_each (e ∷ es) = e ∷ without e.0 (first_of_each es)

-- each index list at which the name has a value, once and with that value: the pin, or else what was assigned
abbrev pub values_of : Bindings → List ℕ → Array
values_of h name = first_of_each (array_of name h.pins ++ array_of name h.assigned)
