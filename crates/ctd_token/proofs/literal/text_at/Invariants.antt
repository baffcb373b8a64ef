use Rattle.std.proofs.Common.{◌-◌, length}
use Rattle.ctd_token.proofs.Literals.{Reading}
use Rattle.ctd_token.proofs.literal.text_at.Given as goal

abbrev pub invariant-loop-at : goal.invariant-loop-at
invariant-loop-at l = Reading l.bytes l.values.items l.bad_octal l.at

abbrev pub decreases-loop-at : goal.decreases-loop-at
decreases-loop-at l = length l.bytes - l.at
