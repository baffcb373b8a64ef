use Rattle.ctd_traps.proofs.Common.{AreAbsent, HasAll, List, Note}
use Rattle.ctd_traps.proofs.never.add_command.Given as goal

abbrev pub invariant-loop-kind : goal.invariant-loop-kind
invariant-loop-kind l = (notes : List Note) → HasAll l.fn.keys notes → AreAbsent notes l.initial.never.items → AreAbsent notes l.never.items
