use Rattle.std.proofs.Common.{◌-◌, length}
use Rattle.ctd_command.proofs.FewDigits.{HasRead}
use Rattle.ctd_command.proofs.digits.leading_number.Given as goal

abbrev pub invariant-loop-count : goal.invariant-loop-count
invariant-loop-count l = record { read : HasRead l.few l.count l.number }

abbrev pub decreases-loop-count : goal.decreases-loop-count
decreases-loop-count l = length l.few - l.count

abbrev pub invariant-loop-count-2 : goal.invariant-loop-count-2
invariant-loop-count-2 l = record { read : HasRead l.few l.count l.number }

abbrev pub decreases-loop-count-2 : goal.decreases-loop-count-2
decreases-loop-count-2 l = length l.few - l.count
