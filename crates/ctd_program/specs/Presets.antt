-- Which texts spell which presets.
use Rattle.std.specs.Prelude.{◌≡◌, ℕ, ℤ, List, [], ◌∷◌, ◌++◌, length, neg_ℤ, Ok}
use Rattle.ctd_program.specs.declared.preset.PresetValue.{PresetValue}
use Rattle.ctd_program.specs.declared.preset.PresetValue.TheVariants as literals
use Rattle.ctd_program.specs.declared.preset.Preset.{Preset}
use Rattle.ctd_token.specs.declared.token.TokenKind.{TokenKind}
use Rattle.ctd_token.specs.declared.token.TokenKind.TheVariants as tokens
use Rattle.ctd_token.specs.Cut.{token_at}

-- the whole text is this token
abbrev pub IsToken : List ℕ → TokenKind → Type 0
IsToken text t = token_at text ≡ Ok (t, length text)

-- one item or more, with a comma between each two
pub data AreSeparated {T : Type 0} (Item : List ℕ → T → Type 0) : List ℕ → List T → Type 0 where
  one : {text : List ℕ} {x : T} → Item text x → AreSeparated Item text (x ∷ [])
  more : (text rest : List ℕ) {x : T} {xs : List T} → Item text x → AreSeparated Item rest xs → AreSeparated Item (text ++ 44 ∷ rest) (x ∷ xs)

-- a value: a numeral, a minus and a numeral, or a string
pub data IsPresetValue : List ℕ → PresetValue → Type 0 where
  number : {text : List ℕ} {n : ℤ} → IsToken text (tokens.Numeral n) → IsPresetValue text (literals.Int n)
  negative : {text : List ℕ} {n : ℤ} → IsToken text (tokens.Numeral n) → IsPresetValue (45 ∷ text) (literals.Int (neg_ℤ n))
  string : {text values : List ℕ} → IsToken text (tokens.Text values) → IsPresetValue text (literals.Text values)

-- a target: a name alone, or a name and its indices between brackets
pub data IsPresetTarget : List ℕ → (name : List ℕ) → (indices : List PresetValue) → Type 0 where
  alone : {name : List ℕ} → IsToken name tokens.Name → IsPresetTarget name name []
  indexed : (name values : List ℕ) {indices : List PresetValue} → IsToken name tokens.Name → AreSeparated IsPresetValue values indices → IsPresetTarget (name ++ 91 ∷ (values ++ 93 ∷ [])) name indices

-- target=value, without blanks
pub data IsPreset : List ℕ → Preset → Type 0 where
  preset : (target value : List ℕ) {p : Preset} → IsPresetTarget target p.name p.indices → IsPresetValue value p.value → IsPreset (target ++ 61 ∷ value) p

-- one preset or more
abbrev pub ArePresets : List ℕ → List Preset → Type 0
ArePresets text ps = AreSeparated IsPreset text ps
