use Rattle.ctd_findings.proofs.Common.{AllHave, AllSound, Contains, IsSaid, List, Note, Place}
use Rattle.ctd_findings.proofs.program.place_all.Given as goal

abbrev pub invariant-loop-remark : goal.invariant-loop-remark
invariant-loop-remark l = (places : List Place) (never : List Note) → Contains places l.place → AllHave l.at (IsSaid never l.place) → AllSound places never l.initial.found → AllSound places never l.found
