use Rattle.std.proofs.Common.{◌-◌, length}
use Rattle.ctd_program.proofs.SeparatedLists.{ReadUpTo}
use Rattle.ctd_program.proofs.preset_text.list_at.Given as goal

abbrev pub invariant-loop-items : goal.invariant-loop-items
invariant-loop-items g l = ReadUpTo g.T.Item.spells l.bytes l.items.items l.at

abbrev pub decreases-loop-items : goal.decreases-loop-items
decreases-loop-items g l = length l.bytes - l.at
