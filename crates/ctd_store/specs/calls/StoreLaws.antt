-- What the store's definitions say of each key, for every history: the laws that `laws.rt` states.
use Rattle.std.specs.Prelude.{◌≡◌, ◌≢◌, ◌↔◌, ◌&&◌, ℕ, Bool, List, [], ◌∷◌, Option, Some, None, Contains, AllPairs, IsTrue, IsFalse, if◌then◌else◌}
use Rattle.std.specs.Option.{option_or}
use Rattle.ctd_program.specs.declared.preset.Preset.{Preset}
use Rattle.ctd_store.specs.declared.value.Value.{Value}
use Rattle.ctd_store.specs.Order.{same_bytes, same_values}
use Rattle.ctd_store.specs.Store.{Key, Bindings, value_of, pinned_key, value_under, is_pinned, value_at, initial, assign, unset, values_of}
use Rattle.ctd_store.specs.calls.Store.{index_lists}

-- a key that no preset pins has the value that it is assigned
abbrev pub AssignedKeyHasItsValue : Type 0
AssignedKeyHasItsValue = (h : Bindings) (key : Key) (value : Value) → IsFalse (is_pinned h key) → value_at (assign h key value) key ≡ Some value

-- an assignment to a pinned key changes nothing
abbrev pub PinnedKeyStays : Type 0
PinnedKeyStays = (h : Bindings) (key : Key) (value : Value) → IsTrue (is_pinned h key) → assign h key value ≡ h

-- an assignment changes no other key
abbrev pub AssignmentKeepsOtherKeys : Type 0
AssignmentKeepsOtherKeys = (h : Bindings) (key other : Key) (value : Value) → other ≢ key → value_at (assign h key value) other ≡ value_at h other

-- after UNSET a key of the name has its pin or nothing
abbrev pub UnsetKeyHasItsPin : Type 0
UnsetKeyHasItsPin = (h : Bindings) (key : Key) → value_at (unset h key.name) key ≡ value_under key h.pins

-- UNSET changes no key of another name
abbrev pub UnsetKeepsOtherNames : Type 0
UnsetKeepsOtherNames = (h : Bindings) (name : List ℕ) (key : Key) → key.name ≢ name → value_at (unset h name) key ≡ value_at h key

-- an assignment and UNSET keep the pins
abbrev pub AssignmentKeepsPins : Type 0
AssignmentKeepsPins = (h : Bindings) (key : Key) (value : Value) → (assign h key value).pins ≡ h.pins

-- UNSET changes no preset
abbrev pub UnsetKeepsPins : Type 0
UnsetKeepsPins = (h : Bindings) (name : List ℕ) → (unset h name).pins ≡ h.pins

-- the values of a name are those of its keys that have a value, and no others
abbrev pub ValuesAreThoseOfTheKeys : Type 0
ValuesAreThoseOfTheKeys = (h : Bindings) (name : List ℕ) (indices : List Value) (value : Value)
    → Contains (values_of h name) (indices, value) ↔ (value_at h (record { name = name; indices = indices }) ≡ Some value)

-- no key comes twice among the values of its name
abbrev pub ValuesHaveEachKeyOnce : Type 0
ValuesHaveEachKeyOnce = (h : Bindings) (name : List ℕ) → AllPairs (λ a b. a ≢ b) (index_lists (values_of h name))

-- a pinned key is among the values of its name, with its pin
abbrev pub PinIsAmongTheValues : Type 0
PinIsAmongTheValues = (h : Bindings) (key : Key) (value : Value) → value_under key h.pins ≡ Some value → Contains (values_of h key.name) (key.indices, value)

-- whether two keys are one
abbrev pub same_key : Key → Key → Bool
same_key a b = same_bytes a.name b.name && same_values a.indices b.indices

-- the value of the last preset of a key
abbrev pub last_preset : Key → List Preset → Option Value
last_preset key [] = None
last_preset key (p ∷ rest) = option_or (last_preset key rest) (if same_key key (pinned_key p) then Some (value_of p.value) else None)

-- at first a key has the value of its last preset, or none
abbrev pub LastPresetCounts : Type 0
LastPresetCounts = (presets : List Preset) (key : Key) → value_at (initial presets) key ≡ last_preset key presets
