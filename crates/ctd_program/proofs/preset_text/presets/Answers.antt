use Rattle.std.proofs.Common.{◌≡◌, [], Err, sym, ap, arith, append-nil}
use Rattle.ctd_program.specs.declared.preset.PresetFault.TheVariants.{BadPreset}
use Rattle.ctd_program.proofs.preset_text.presets.Goals as goal

pub returns-in_err-presets-clause-refused : goal.returns-in_err-presets-clause-refused
returns-in_err-presets-clause-refused c is ps spells =
    let bad : c.in_err-presets.field-0.0 ≡ BadPreset = grind (arith, c.from_residual.ensures.1) in
    c.in_err-presets.ensures.refused (ap Err bad) c.args.text.now [] ps (sym (append-nil c.args.text.now)) tt spells

pub returns-then-len-text-clause-refused : goal.returns-then-len-text-clause-refused
returns-then-len-text-clause-refused c is ps spells =
    let same = c.in_ok-presets.ensures.read.only c.args.text.now [] ps (sym (append-nil c.args.text.now)) tt spells in
    omega (arith, same.1, c.if-len-text.true)

pub returns-clause-only : goal.returns-clause-only
returns-clause-only c others spells = (c.in_ok-presets.ensures.read.only c.args.text.now [] others (sym (append-nil c.args.text.now)) tt spells).0
