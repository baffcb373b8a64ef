-- What stands at the front of a text of presets, and its length.
use Rattle.ctd_token.specs.declared.fault.TokenFault.TheVariants as scanning
use Rattle.ctd_program.specs.declared.preset.PresetFault.{PresetFault}
use Rattle.ctd_program.specs.declared.preset.PresetFault.TheVariants.{BadPreset, Memory}
use Rattle.ctd_token.specs.declared.fault.TokenFault.{TokenFault}

-- a fault of a token is one of the presets
abbrev pub fault_of : TokenFault → PresetFault
fault_of (scanning.Wrong kind behind) = BadPreset
fault_of scanning.Memory = Memory
