use Rattle.ctd_program.proofs.PresetValues.{value_read, no_value_read}
use Rattle.ctd_program.proofs.preset_text.PresetValueItem.item_at.Goals as goal

pub returns-clause-read : goal.returns-clause-read
returns-clause-read c = value_read c.args.bytes.now c.literal_at.result c.literal_at.ensures.value c.literal_at.ensures.within

pub returns-clause-refused : goal.returns-clause-refused
returns-clause-refused c bad = no_value_read c.args.bytes.now c.literal_at.result c.literal_at.ensures.value bad
