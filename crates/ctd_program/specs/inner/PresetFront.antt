-- What stands at the front of a text of presets, and its length.
use Rattle.ctd_program.specs.declared.preset.PresetValue.TheVariants as literals
use Rattle.ctd_token.specs.declared.token.TokenKind.TheVariants as tokens
use Rattle.std.specs.Prelude.{◌≡◌, ℕ, ◌+◌, ◌≤◌, ◌⊎◌, nat_eq, if◌then◌else◌, List, [], ◌∷◌, ◌++◌, length, take, neg_ℤ, Option, Some, None, Result, Ok, Err}
use Rattle.ctd_program.specs.declared.preset.PresetValue.{PresetValue}
use Rattle.ctd_program.specs.declared.preset.PresetFault.{PresetFault}
use Rattle.ctd_program.specs.declared.preset.PresetFault.TheVariants.{BadPreset, Memory}
use Rattle.ctd_token.specs.Cut.{TokenOrFault, token_at}
use Rattle.ctd_program.specs.Presets.{AreSeparated, IsPresetValue, IsPresetTarget}

-- what is found, unless no memory was left
abbrev pub IsFound : {T : Type 0} → Result T PresetFault → Option T → Type 0
IsFound (Ok x) found = found ≡ Some x
IsFound (Err BadPreset) found = found ≡ None
IsFound (Err Memory) found = Unit {0}

-- a token that is a literal
abbrev pub plain_literal : TokenOrFault → Option (PresetValue × ℕ)
plain_literal (Ok (tokens.Numeral n, len)) = Some (literals.Int n, len)
plain_literal (Ok (tokens.Text values, len)) = Some (literals.Text values, len)
plain_literal _ = None

-- a numeral behind a minus
abbrev pub negative_literal : TokenOrFault → Option (PresetValue × ℕ)
negative_literal (Ok (tokens.Numeral n, len)) = Some (literals.Int (neg_ℤ n), 1 + len)
negative_literal _ = None

-- the literal at the front of some bytes
abbrev pub literal_at : List ℕ → Option (PresetValue × ℕ)
literal_at [] = None
literal_at (b ∷ bs) = if nat_eq b 45 then negative_literal (token_at bs) else plain_literal (token_at (b ∷ bs))

-- what may follow a value or a preset: nothing, a comma or a closing bracket
abbrev pub MayFollowItem : List ℕ → Type 0
MayFollowItem [] = Unit {0}
MayFollowItem (b ∷ bs) = (b ≡ 44) ⊎ (b ≡ 93)

-- what may follow a list of them: nothing or a closing bracket
abbrev pub MayFollowList : List ℕ → Type 0
MayFollowList [] = Unit {0}
MayFollowList (b ∷ bs) = b ≡ 93

-- what may follow a target: an equals sign
abbrev pub MayFollowTarget : List ℕ → Type 0
MayFollowTarget [] = ⊥
MayFollowTarget (b ∷ bs) = b ≡ 61

-- the first bytes, as many as the number says, spell this, and no other first bytes before what may follow spell anything
pub record IsAtFront {T : Type 0} (MayFollow : List ℕ → Type 0) (Spells : List ℕ → T → Type 0) (bytes : List ℕ) (found : T × ℕ) : Type 0 where
  pub within : found.1 ≤ length bytes
  pub spelled : Spells (take found.1 bytes) found.0
  pub only : (text rest : List ℕ) (x : T) → bytes ≡ text ++ rest → MayFollow rest → Spells text x → (x ≡ found.0) × (length text ≡ found.1)

-- no first bytes before what may follow spell anything
abbrev pub NothingIsAtFront : {T : Type 0} → (MayFollow : List ℕ → Type 0) (Spells : List ℕ → T → Type 0) (bytes : List ℕ) → Type 0
NothingIsAtFront {T} MayFollow Spells bytes = (text rest : List ℕ) (x : T) → bytes ≡ text ++ rest → MayFollow rest → Spells text x → ⊥

-- what stands behind the name of a target: nothing, or indices between brackets
pub data AreIndices : List ℕ → List PresetValue → Type 0 where
  none : AreIndices [] []
  some : (values : List ℕ) {indices : List PresetValue} → AreSeparated IsPresetValue values indices → AreIndices (91 ∷ (values ++ 93 ∷ [])) indices

-- a target, with its name and its indices in one
abbrev pub SpellsTarget : List ℕ → List ℕ × List PresetValue → Type 0
SpellsTarget text target = IsPresetTarget text target.0 target.1
