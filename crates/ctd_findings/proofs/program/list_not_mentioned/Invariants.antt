use Rattle.ctd_findings.proofs.Common.{AllSound, List, Note, Place}
use Rattle.ctd_findings.proofs.program.list_not_mentioned.Given as goal

abbrev pub invariant-loop-preset : goal.invariant-loop-preset
invariant-loop-preset l = (places : List Place) (never : List Note) → AllSound places never l.initial.found → AllSound places never l.found
