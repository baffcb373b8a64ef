use Rattle.std.proofs.Common.{rules}
use Rattle.ctd_program.proofs.preset.Presets.pins.Goals as goal

pub returns : goal.returns
returns c = search rules
