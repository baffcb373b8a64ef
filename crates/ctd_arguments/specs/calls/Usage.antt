-- Which fault the words have.
-- Used only by per-call contracts and laws.
use Rattle.std.specs.Prelude.{Bool, List, Option, ◌≤◌, codes, false, length}
use Rattle.std.specs.Option.{option_map_or}
use Rattle.std.specs.Str.{bytes_eq}
use Rattle.clap.specs.Words.{Kinds, Row, Text, first_of}
use Rattle.ctd_program.specs.declared.preset.Preset.{Preset}
use Rattle.ctd_arguments.specs.Usage.{ArePresetsOf}

-- a list with one kind of error at most
pub record IsSingle (kinds : Kinds) : Type 0 where
  pub one : length kinds ≤ 1

-- a flag is on in what clap found
abbrev pub is_on : Text → List Row → Bool
is_on name rows = option_map_or (λ value. bytes_eq value (codes "true")) (first_of name rows) false

-- a text is given, and spells no presets
abbrev pub HasNoPresets : Option Text → Type 0
HasNoPresets given = (presets : List Preset) → ¬ (ArePresetsOf given presets)
