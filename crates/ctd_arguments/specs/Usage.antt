-- Which fault the words have.
use Rattle.ctd_arguments.specs.declared.setup.UsageFault.TheVariants as fault
use Rattle.std.specs.Prelude.{◌≡◌, ◌^◌, ◌<◌, ℕ, Bool, true, false, List, [], Option, None, Some, All, IsUtf8, codes}
use Rattle.std.specs.Option.{option_map_or}
use Rattle.std.specs.Str.{bytes_eq}
use Rattle.std.specs.Str.Parse.{IsNumeral, digits_value}
use Rattle.clap.specs.Words.{IsAmong, Text, fault_of, first_of, matches_of}
use Rattle.clap.specs.declared.error.ErrorKind.{ErrorKind}
use Rattle.clap.specs.declared.error.ErrorKind.TheVariants.{DisplayHelp, DisplayVersion, OutOfMemory}
use Rattle.ctd_program.specs.Presets.{ArePresets}
use Rattle.ctd_program.specs.declared.preset.Preset.{Preset}
use Rattle.ctd_arguments.specs.CommandLine.{checker}
use Rattle.ctd_arguments.specs.declared.setup.UsageFault.{UsageFault}

-- the fault for each kind of error of clap
abbrev pub fault_by_kind : ErrorKind → UsageFault
fault_by_kind DisplayHelp = fault.Help
fault_by_kind DisplayVersion = fault.Version
fault_by_kind OutOfMemory = fault.Memory
fault_by_kind _ = fault.Words

-- the value that the words give to an option or an argument
abbrev pub option_value : List Text → Text → Option Text
option_value words name = first_of name (matches_of checker words)

-- the words give a flag
abbrev pub flag_in : List Text → Text → Bool
flag_in words name = option_map_or (λ value. bytes_eq value (codes "true")) (first_of name (matches_of checker words)) false

-- one or more digits, of a number of 64 bits
abbrev pub IsStepNumber : Text → Type 0
IsStepNumber text = IsNumeral 10 text × (digits_value 10 text < 2 ^ 64)

-- this is the fault of a kind of error that clap finds in the words
abbrev pub IsFaultOfClap : List Text → UsageFault → Type 0
IsFaultOfClap words f = (kind : ErrorKind) × IsAmong kind (fault_of checker words) × (fault_by_kind kind ≡ f)

-- the words are texts, and clap takes them
abbrev pub IsTaken : List Text → Type 0
IsTaken words = All IsUtf8 words × (fault_of checker words ≡ [])

-- the words are taken, and ask for a check: no data are to be generated
abbrev pub AsksForCheck : List Text → Type 0
AsksForCheck words = IsTaken words × (flag_in words (codes "generate") ≡ false)

-- the presets of a text; none where no text is given
abbrev pub ArePresetsOf : Option Text → List Preset → Type 0
ArePresetsOf None presets = presets ≡ []
ArePresetsOf (Some text) presets = ArePresets text presets

-- the limit on steps that a text gives; ten thousand million where none is given
abbrev pub IsStepLimitOf : Option Text → ℕ → Type 0
IsStepLimitOf None steps = steps ≡ 10000000000
IsStepLimitOf (Some text) steps = IsStepNumber text × (steps ≡ digits_value 10 text)

-- the words have this fault, and none of those that stand before it here; memory may run out whatever the words
pub data IsUsageFault (words : List Text) : UsageFault → Type 0 where
  no_text : ¬ (All IsUtf8 words) → IsUsageFault words fault.Words
  not_taken : {f : UsageFault} → All IsUtf8 words → IsFaultOfClap words f → IsUsageFault words f
  generates : IsTaken words → flag_in words (codes "generate") ≡ true → IsUsageFault words fault.Generate
  bad_preset : AsksForCheck words → ((presets : List Preset) → ¬ (ArePresetsOf (option_value words (codes "define")) presets)) → IsUsageFault words fault.BadPreset
  bad_steps : (presets : List Preset) → AsksForCheck words → ArePresetsOf (option_value words (codes "define")) presets →
      ((steps : ℕ) → ¬ (IsStepLimitOf (option_value words (codes "max-steps")) steps)) → IsUsageFault words fault.BadSteps
  no_memory : IsUsageFault words fault.Memory
