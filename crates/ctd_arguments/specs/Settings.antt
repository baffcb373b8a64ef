-- The settings that the words of the command line ask for.
use Rattle.clap.specs.Words.{Text}
use Rattle.std.specs.Prelude.{◌≡◌, ◌^◌, List, None, Some, codes, option_and_then, if◌then◌else◌}
use Rattle.std.specs.Str.{bytes_eq}
use Rattle.ctd_program.specs.declared.mode.Mode.TheVariants.{Exact, BlanksOk}
use Rattle.ctd_arguments.specs.Usage.{ArePresetsOf, AsksForCheck, IsStepLimitOf, flag_in, option_value}
use Rattle.ctd_arguments.specs.declared.setup.Setup.{Setup}

-- the words ask for a check with these settings; the name `-` stands for standard input, as does no name
pub record IsSetup (words : List Text) (s : Setup) : Type 0 where
  pub asks : AsksForCheck words
  pub program : option_value words (codes "PROGRAM") ≡ Some s.program
  pub testdata : s.testdata ≡ option_and_then (λ name. if bytes_eq name (codes "-") then None else Some name) (option_value words (codes "TESTDATA"))
  pub presets : ArePresetsOf (option_value words (codes "define")) s.presets
  pub mode : s.mode ≡ (if flag_in words (codes "whitespace-ok") then BlanksOk else Exact)
  pub quiet : s.quiet ≡ flag_in words (codes "quiet")
  pub steps : IsStepLimitOf (option_value words (codes "max-steps")) s.limits.steps
  pub bytes : s.limits.bytes ≡ 2 ^ 40
